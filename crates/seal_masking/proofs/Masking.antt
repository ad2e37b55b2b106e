-- The mask over a packet that stands at a buffer's start.
use Prim.Native.Nat.{ℕ, ◌+◌, ◌≤◌}
use mathlib.Core.Path.{◌≡◌}
use mathlib.Core.List.{List, [], ◌∷◌}
use lib.ListN.{length, get_or, take, drop}
use Rattle.octets.specs.Octets.{part, xor, laid}
use Rattle.octets.proofs.Parts.{part_length}
use Rattle.octets.proofs.Buffers.{front-laid}
use Rattle.header_forms.specs.Forms.{Form}
use Rattle.protection.specs.Protection.{on_first, on_number, masked}
use Rattle.protection.proofs.Parts.{mask-rest}

-- the number's bytes, put at the start of a small buffer and taken from there
pub number-taken : (d buffer : List ℕ) (place len count : ℕ) → len ≡ count → place + count ≤ length buffer
    → take count (laid d 0 (part buffer place len)) ≡ part buffer place count
number-taken d buffer place len count is inside =
    rw is (front-laid d (part buffer place count) count (part_length buffer place count inside))

-- what is laid over the first byte and the number is the mask
pub mask-laid : (form : Form) (mask buffer one two short : List ℕ) (place count first : ℕ) → length mask ≡ 16
    → one ≡ laid buffer 0 (first ∷ [])
    → first ≡ on_first form mask (get_or buffer 0 0)
    → short ≡ part buffer place count
    → two ≡ laid one place (xor short (take 15 (drop 1 mask)))
    → two ≡ masked form mask place count buffer
unfolding masked on_number
mask-laid form mask buffer one two short place count first sixteen put its-first number then =
    rw (then, put, its-first, number, mask-rest mask sixteen)
