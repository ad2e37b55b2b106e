-- Bytes as hex digits: how many there are, each of them, and that they spell the bytes.
use Prim.Native.Nat.{ℕ, zero, suc, ◌+◌, ◌*◌, ◌/◌, ◌%◌, ◌<◌, ◌≤◌}
use mathlib.Core.Bool.{Bool, true, false}
use mathlib.Core.List.{List, [], ◌∷◌}
use mathlib.Core.Path.{◌≡◌, refl, ap, ap₂, ◌∙◌}
use native.Mathlib.Omega.{arith}
use borrow.Author.Tests.{lt-ltb, le-ltb, ltb-true, ltb-false}
use lib.Dec.{ltb}
use lib.ListN.{length, get_or, set}
use lib.Seq.{paste}
use Rattle.octets.proofs.Buffers.{lay-turn}
use Rattle.octets.specs.Octets.{Bytes}
use Rattle.digits_reading.specs.Digits.{value_of, pair, pairs}
use Rattle.digits_writing.specs.Hex.{digit_of, hex}
use Rattle.digits_reading.proofs.Values.{at-digit, at-letter}

-- ---- a digit
module _ (v : ℕ) where
  pub low_digit : v < 10 → digit_of v ≡ 48 + v
  unfolding digit_of
  low_digit h = rw (lt-ltb v 10 h)

  pub high_digit : 10 ≤ v → digit_of v ≡ 87 + v
  unfolding digit_of
  high_digit h = rw (le-ltb v 10 h)

-- a digit's value is what it was made of
pub value-back : (v : ℕ) → v < 16 → value_of (digit_of v) ≡ v
value-back v h = by (ltb v 10) refl
  where
    by : (t : Bool) → ltb v 10 ≡ t → value_of (digit_of v) ≡ v
    by true p = rw (low_digit v (ltb-true v 10 p), at-digit (48 + v) (omega arith) (omega (arith, ltb-true v 10 p))) (omega arith)
    by false p = rw (high_digit v (ltb-false v 10 p), at-letter (87 + v) (omega (arith, ltb-false v 10 p)) (omega arith)) (omega arith)

-- ---- the digits of bytes
pub hex-length : (s : List ℕ) → length (hex s) ≡ 2 * length s
unfolding hex
hex-length [] = refl
hex-length (b ∷ s) = let e : length (hex s) ≡ 2 * length s = hex-length s in omega arith

-- characters 2 i and 2 i + 1 are byte i's
pub hex-at : (s : List ℕ) (i : ℕ) → i < length s
    → (get_or (hex s) (2 * i) 0 ≡ digit_of (get_or s i 0 / 16)) × (get_or (hex s) (2 * i + 1) 0 ≡ digit_of (get_or s i 0 % 16))
unfolding hex
hex-at [] i h = absurd (omega arith)
hex-at (b ∷ s) zero h = (refl, refl)
hex-at (b ∷ s) (suc i) h =
    let e : 2 * suc i ≡ suc (suc (2 * i)) = omega arith in
    let f : 2 * suc i + 1 ≡ suc (suc (2 * i + 1)) = omega arith in
    let rest = hex-at s i (omega arith) in
    (ap (λ (k : ℕ). get_or (hex (b ∷ s)) k 0) e ∙ rest.0, ap (λ (k : ℕ). get_or (hex (b ∷ s)) k 0) f ∙ rest.1)

-- what was encoded is decoded to the same bytes
pub decoded-back : (s : List ℕ) → Bytes s → pairs (hex s) ≡ s
unfolding hex pairs
decoded-back [] small = refl
decoded-back (b ∷ s) small =
    let byte : b < 256 = small 0 in
    let high = value-back (b / 16) (omega arith) in
    let low = value-back (b % 16) (omega arith) in
    let whole : pair (digit_of (b / 16)) (digit_of (b % 16)) ≡ b = rw (high, low) (omega arith) in
    ap₂ (λ (x : ℕ) (xs : List ℕ). x ∷ xs) whole (decoded-back s (λ i. small (suc i)))

-- two characters laid over a buffer's start, a byte's
pub lay-two : (d d₀ s : List ℕ) (i v w : ℕ) → length s ≤ length d₀ → 2 * i + 1 < length s → d ≡ paste d₀ 0 s (2 * i) → v ≡ get_or s (2 * i) 0
    → w ≡ get_or s (2 * i + 1) 0 → set (set d (2 * i) v) (2 * i + 1) w ≡ paste d₀ 0 s (2 * (i + 1))
lay-two d d₀ s i v w fits inside is ev ew =
    let here : 2 * i ≡ 0 + 2 * i = omega arith in
    let there : 2 * i + 1 ≡ 0 + (2 * i + 1) = omega arith in
    let next : 2 * i + 1 + 1 ≡ 2 * (i + 1) = omega arith in
    let one = ap (λ (k : ℕ). set d k v) here ∙ lay-turn d d₀ 0 s (2 * i) v (omega arith) (omega arith) is ev in
    ap (λ (k : ℕ). set (set d (2 * i) v) k w) there
    ∙ lay-turn (set d (2 * i) v) d₀ 0 s (2 * i + 1) w (omega arith) inside one ew
    ∙ ap (paste d₀ 0 s) next
