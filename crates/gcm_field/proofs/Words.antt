-- What the operations on two words do to the block that they spell.
use Prim.Native.Nat.{ℕ, ◌+◌, ◌*◌, ◌/◌, ◌%◌, ◌^◌, ◌<◌}
use mathlib.Core.Path.{◌≡◌, sym, ap, ap₂, ◌∙◌}
use mathlib.Core.Bool.{Bool}
use native.Mathlib.Nat.{add-zero, mul_assoc}
use native.Mathlib.Omega.{arith}
use lib.Bits.{bit_xor, bit_or, xor_block, xor_zero_r, or_shifted}
use lib.Dec.{T, eqb, eqb→eq}
use lib.ListN.{replicate}
use Rattle.octets.proofs.Rule.{each, at_each}
use Rattle.gcm_field.specs.Field.{R, next, nexts}
use Rattle.gcm_field.proofs.Linear.{nexts-split}

pub add_words : (ah al bh bl : ℕ) → al < 2 ^ 64 → bl < 2 ^ 64 → bit_xor ah bh * 2 ^ 64 + bit_xor al bl ≡ bit_xor (ah * 2 ^ 64 + al) (bh * 2 ^ 64 + bl)
add_words ah al bh bl ha hb = sym (xor_block 64 ah bh al bl ha hb)

-- a high word f added to two words, and the low one joined of two parts
joined : (f hi top low k : ℕ) → low < 2 ^ k → top * 2 ^ k + low < 2 ^ 64 → bit_xor hi f * 2 ^ 64 + bit_or (top * 2 ^ k) low ≡ bit_xor (hi * 2 ^ 64 + (top * 2 ^ k + low)) (f * 2 ^ 64)
joined f hi top low k l fits =
    ap (λ (y : ℕ). bit_xor hi f * 2 ^ 64 + y) (or_shifted top k low l ∙ sym (xor_zero_r (top * 2 ^ k + low)))
    ∙ add_words hi (top * 2 ^ k + low) f 0 fits (omega arith)
    ∙ ap (bit_xor (hi * 2 ^ 64 + (top * 2 ^ k + low))) (add-zero (f * 2 ^ 64))

-- by one, where r is what a 1 that is shifted out adds to the high word
pub shift_one : (hi lo r : ℕ) → lo < 2 ^ 64 → r * 2 ^ 64 ≡ R
    → bit_xor (hi / 2) (lo % 2 * r) * 2 ^ 64 + bit_or (hi * 2 ^ 63 % 2 ^ 64) (lo / 2) ≡ next (hi * 2 ^ 64 + lo)
unfolding next
shift_one hi lo r h is =
    let top : hi * 2 ^ 63 % 2 ^ 64 ≡ hi % 2 * 2 ^ 63 = omega arith in
    let half : hi / 2 * 2 ^ 64 + (hi % 2 * 2 ^ 63 + lo / 2) ≡ (hi * 2 ^ 64 + lo) / 2 = omega arith in
    let odd : lo % 2 ≡ (hi * 2 ^ 64 + lo) % 2 = omega arith in
    ap (λ (x : ℕ). bit_xor (hi / 2) (lo % 2 * r) * 2 ^ 64 + bit_or x (lo / 2)) top
    ∙ joined (lo % 2 * r) (hi / 2) (hi % 2) (lo / 2) 63 (omega arith) (omega arith)
    ∙ ap₂ bit_xor half (mul_assoc (lo % 2) r (2 ^ 64) ∙ ap₂ (λ (x y : ℕ). x * y) odd is)

-- what four bits that are shifted out add to the high word: their sum in four places, by a rule tested at each number below 16
abbrev pub placed : (p q r s k : ℕ) → ℕ
placed p q r s k = bit_xor (bit_xor (k * p % 2 ^ 64) (k * q % 2 ^ 64)) (bit_xor (k * r % 2 ^ 64) (k * s % 2 ^ 64))

abbrev pub reduces : (p q r s k x : ℕ) → Bool
reduces p q r s k x = eqb (placed p q r s k * 2 ^ 64) (nexts 4 k)

pub reduced-is : (p q r s : ℕ) → T (each (reduces p q r s) 0 (replicate 16 0)) → (k : ℕ) → k < 16 → placed p q r s k * 2 ^ 64 ≡ nexts 4 k
reduced-is p q r s tested k h = eqb→eq (placed p q r s k * 2 ^ 64) (nexts 4 k) (at_each (reduces p q r s) (replicate 16 0) tested k h)

pub shift-four : (hi lo f : ℕ) → lo < 2 ^ 64 → f * 2 ^ 64 ≡ nexts 4 (lo % 16)
    → bit_xor (hi / 16) f * 2 ^ 64 + bit_or (hi * 2 ^ 60 % 2 ^ 64) (lo / 16) ≡ nexts 4 (hi * 2 ^ 64 + lo)
shift-four hi lo f h ef =
    let top : hi * 2 ^ 60 % 2 ^ 64 ≡ hi % 16 * 2 ^ 60 = omega arith in
    let shr : hi / 16 * 2 ^ 64 + (hi % 16 * 2 ^ 60 + lo / 16) ≡ (hi * 2 ^ 64 + lo) / 16 = omega arith in
    let out : lo % 16 ≡ (hi * 2 ^ 64 + lo) % 16 = omega arith in
    ap (λ (x : ℕ). bit_xor (hi / 16) f * 2 ^ 64 + bit_or x (lo / 16)) top
    ∙ joined f (hi / 16) (hi % 16) (lo / 16) 60 (omega arith) (omega arith)
    ∙ ap₂ bit_xor shr (ef ∙ ap (nexts 4) out)
    ∙ sym (nexts-split 4 (hi * 2 ^ 64 + lo))
