-- Digits as characters: their values, and the bytes that pairs of hex digits spell.
use Rattle.std.specs.Prelude.{ℕ, suc, ◌+◌, ◌-◌, ◌*◌, ◌%◌, min, ◌≡◌, cond, ◌&&◌, List, [], ◌∷◌, leb, ltb, length, take}
use Rattle.octets.specs.Octets.{begun}

-- the value of a digit, `0` to `9`, `A` to `F` or `a` to `f`; 16 for any other character
unfoldable pub value_of : ℕ → ℕ
value_of c =
    cond (leb 48 c && leb c 57) (c - 48)
    (cond (leb 65 c && leb c 70) (c - 55)
    (cond (leb 97 c && leb c 102) (c - 87) 16))

-- how many characters stand before the first that is no digit in the base
unfoldable pub run : ℕ → List ℕ → ℕ
run base [] = 0
run base (c ∷ t) = cond (ltb (value_of c) base) (suc (run base t)) 0

-- the byte that two digits spell
abbrev pub pair : ℕ → ℕ → ℕ
pair a b = value_of a % 16 * 16 + value_of b % 16

-- the bytes that a text spells, two digits each
unfoldable pub pairs : List ℕ → List ℕ
pairs [] = []
pairs (a ∷ []) = []
pairs (a ∷ b ∷ t) = pair a b ∷ pairs t

-- what decoding leaves in a buffer, and answers
pub record Decoded (text before after : List ℕ) (count : ℕ) : Type 0 where
  pub counted : count ≡ min (length (pairs text)) (length before)
  pub holds : after ≡ begun (take count (pairs text)) before
