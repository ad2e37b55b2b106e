-- GHASH, SP 800-38D section 6.4, and the same taken byte by byte.
use Rattle.std.specs.Prelude.{ℕ, zero, suc, ◌+◌, ◌-◌, ◌*◌, ◌/◌, ◌^◌, ◌≤◌, ◌<◌, ◌≡◌, Bool, true, false, ltb, length, take, drop}
use mathlib.Core.List.{List, [], ◌∷◌, foldl}
use Rattle.std.specs.Int.Bits.{bit_xor}
use Rattle.octets.specs.Octets.{number}
use Rattle.gcm_field.specs.Field.{◌•◌, num}
use Rattle.gcm_hash.specs.declared.Ghash.{Ghash}

-- the first n blocks of some bytes
unfoldable pub blocks : ℕ → List ℕ → List ℕ
blocks zero s = []
blocks (suc n) s = number (take 16 s) ∷ blocks n (drop 16 s)

-- Y_m on from Y_0: Y_i = (Y_(i-1) ⊕ X_i) • H
unfoldable pub chained : ℕ → ℕ → List ℕ → ℕ
chained h = foldl (λ y x. bit_xor y x • h)

-- GHASH_H of whole blocks
unfoldable pub ghash : ℕ → List ℕ → ℕ
ghash h s = chained h 0 (blocks (length s / 16) s)

-- ---- byte by byte
-- Y with the bytes of the present block added, and how many those are
pub record State : Type 0 where
  pub y : ℕ
  pub filled : ℕ

abbrev pub state : Ghash → State
state g = record { y = num g.y; filled = g.filled }

abbrev pub start : State
start = record { y = 0; filled = 0 }

-- byte b added at place k of the block
unfoldable pub put : ℕ → ℕ → ℕ → ℕ
put y k b = bit_xor y (b * 2 ^ (8 * (15 - k)))

abbrev pub pick : Bool → State → State → State
pick true a b = a
pick false a b = b

-- one more byte: the sixteenth makes the block whole, and Y goes on
unfoldable pub taken : ℕ → State → ℕ → State
taken h g b =
    pick (ltb g.filled 15)
    (record { y = put g.y g.filled b; filled = g.filled + 1 })
    (record { y = put g.y g.filled b • h; filled = 0 })

-- more bytes
unfoldable pub absorbed : ℕ → State → List ℕ → State
absorbed h = foldl (taken h)

-- some of the bytes s behind place i are absorbed, and the place is j: what is left gives the same
pub record Onward (h : ℕ) (s : List ℕ) (g : State) (i : ℕ) (g' : State) (j : ℕ) : Type 0 where
  pub same : absorbed h g' (drop j s) ≡ absorbed h g (drop i s)
  pub room : g'.filled < 16
  pub further : i < j
  pub inside : j ≤ length s

-- a block that has begun is whole, as if zeros had come
unfoldable pub closed : ℕ → State → State
closed h g = pick (ltb 0 g.filled) (record { y = g.y • h; filled = 0 }) g

-- the last block: the lengths of the associated data and of the ciphertext, in bits
unfoldable pub finished : ℕ → State → ℕ → ℕ → ℕ
finished h g associated cipher = bit_xor (closed h g).y (8 * associated * 2 ^ 64 + 8 * cipher) • h
