-- The parts of a packet as parts of the datagram that it begins, and what of a mask falls on the number.
use Prim.Native.Nat.{ℕ, ◌+◌, ◌-◌, ◌≤◌}
use mathlib.Core.Path.{◌≡◌, ap, ◌∙◌}
use mathlib.Core.List.{List}
use native.Mathlib.Omega.{arith}
use lib.ListN.{length, take, drop, length-drop}
use lib.Seq.{take_all, take-take, drop-drop}
use Rattle.octets.specs.Octets.{part}
use Rattle.octets.proofs.Parts.{part_length, drop-taken}
use Rattle.octets.proofs.Xor.{xor-length}
use Rattle.protection.specs.Protection.{on_number}

-- behind a number of n bytes that begins at a place: the packet's ciphertext, and its tag
module _ (d : List ℕ) (at len n : ℕ) (all : at + len ≤ length d) (enough : n + 16 ≤ len) where
  abbrev body : List ℕ
  body = drop (at + n) (take (at + len) d)

  pub body-part : body ≡ part d (at + n) (len - n)
  body-part =
      let end : at + len ≡ at + n + (len - n) = omega arith in
      ap (λ (m : ℕ). drop (at + n) (take m d)) end ∙ drop-taken d (at + n) (len - n)

  pub body_end : length body - 16 ≡ len - n - 16
  body_end = omega (arith, ap length body-part, part_length d (at + n) (len - n) (omega arith))

  pub cipher-part : take (length body - 16) body ≡ part d (at + n) (len - n - 16)
  cipher-part = rw (body_end, body-part) (take-take (len - n - 16) (len - n) (drop (at + n) d) (omega arith))

  pub tag-part : drop (length body - 16) body ≡ part d (at + len - 16) 16
  tag-part =
      let end : len - n ≡ len - n - 16 + 16 = omega arith in
      let place : at + n + (len - n - 16) ≡ at + len - 16 = omega arith in
      ap (λ (m : ℕ). drop m body) body_end
      ∙ ap (drop (len - n - 16)) (body-part ∙ ap (part d (at + n)) end)
      ∙ drop-taken (drop (at + n) d) (len - n - 16) 16
      ∙ ap (take 16) (drop-drop (len - n - 16) (at + n) d ∙ ap (λ (m : ℕ). drop m d) place)

-- a mask's fifteen bytes behind its first are all that it has there
pub mask-rest : (mask : List ℕ) → length mask ≡ 16 → part mask 1 15 ≡ drop 1 mask
mask-rest mask sixteen = take_all 15 (drop 1 mask) (omega (arith, length-drop 1 mask))

pub masked-length : (mask short : List ℕ) → length (on_number mask short) ≡ length short
unfolding on_number
masked-length mask short = xor-length short (drop 1 mask)
