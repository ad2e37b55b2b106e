-- Section 17.1: what shortening a number comes to, by what the tests show; and the smallest length is the smallest that covers.
use Prim.Native.Nat.{ℕ, zero, suc, ◌+◌, ◌-◌, ◌*◌, ◌/◌, ◌%◌, ◌^◌, ◌≤◌, ◌<◌}
use mathlib.Core.Path.{◌≡◌, refl, sym, ◌∙◌}
use mathlib.Core.Bool.{Bool, true, false}
use lib.Dec.{leb, ltb}
use native.Mathlib.Nat.{two-pow-succ}
use native.Mathlib.Omega.{arith}
use lib.Count.{count_leading_zeros, leading_top}
use lib.Pow.{pow_mono, pow_pos}
use borrow.Author.Tests.{le-leb, lt-leb, lt-ltb, le-ltb, leb-true, leb-false, ltb-true}
use Rattle.octets.specs.Outcome.{refused, given}
use Rattle.octets.proofs.Outcome.{passed, given-same}
use Rattle.numbers.specs.Numbers.{numbers, window, half}
use Rattle.numbers_shortening.specs.Shortening.{Acknowledged, nothing, up_to, coverable, ahead, gap, halvings, bit_length, smallest_length, shortened}

-- ---- the gap
pub uncovered : (g : ℕ) → half 4 ≤ g → coverable g ≡ refused 14
unfolding coverable
uncovered g h = rw (le-ltb g (half 4) h)

pub covered : (g : ℕ) → g < half 4 → coverable g ≡ given g
unfolding coverable
covered g h = rw (lt-ltb g (half 4) h)

module _ (m : ℕ) where
  pub gap-range : (a : Acknowledged) → numbers ≤ m → gap m a ≡ refused 10
  unfolding gap
  gap-range a h = rw (le-ltb m numbers h)

  module _ (small : m < numbers) where
    pub gap-none : gap m nothing ≡ coverable (m + 1)
    unfolding gap ahead
    gap-none = rw (lt-ltb m numbers small)

    pub gap-behind : (a : ℕ) → m ≤ a → gap m (up_to a) ≡ refused 14
    unfolding gap ahead
    gap-behind a h = rw (lt-ltb m numbers small, le-ltb a m h)

    pub gap-ahead : (a : ℕ) → a < m → gap m (up_to a) ≡ coverable (m - a)
    unfolding gap ahead
    gap-ahead a h = rw (lt-ltb m numbers small, lt-ltb a m h)

-- a gap is at least one, and four bytes cover it
coverable-sized : (h : ℕ) {g : ℕ} → 0 < h → given g ≡ coverable h → (0 < g) × (g < half 4)
unfolding coverable
coverable-sized h some is =
    let guard = passed 14 (ltb h (half 4)) (given h) (sym is) in
    let same = given-same guard.1 in
    (omega arith, omega (arith, ltb-true h (half 4) guard.0))

ahead-sized : (m : ℕ) (a : Acknowledged) {g : ℕ} → given g ≡ ahead m a → (0 < g) × (g < half 4)
unfolding ahead
ahead-sized m nothing is = coverable-sized (m + 1) (omega arith) is
ahead-sized m (up_to a) is =
    let guard = passed 14 (ltb a m) (coverable (m - a)) (sym is) in
    let above = ltb-true a m guard.0 in
    coverable-sized (m - a) (omega arith) (sym guard.1)

pub gap-sized : (m : ℕ) (a : Acknowledged) {g : ℕ} → given g ≡ gap m a → (0 < g) × (g < half 4)
unfolding gap
gap-sized m a is = ahead-sized m a (sym (passed 10 (ltb m numbers) (ahead m a) (sym is)).1)

-- ---- the smallest length
module _ (m : ℕ) (a : Acknowledged) where
  pub smallest-refused : {n : ℕ} → refused n ≡ gap m a → smallest_length m a ≡ refused n
  unfolding smallest_length
  smallest-refused e = rw (← e)

  pub smallest-given : {g : ℕ} → given g ≡ gap m a → smallest_length m a ≡ given ((bit_length g + 1 + 7) / 8)
  unfolding smallest_length
  smallest-given e = rw (← e)

no-halvings : (k : ℕ) → halvings k 0 ≡ 0
unfolding halvings
no-halvings zero = refl
no-halvings (suc k) = refl

-- a number from 2 ^ j on and below twice that has j + 1 bits
bits : (j k n : ℕ) → n ≤ k → 2 ^ j ≤ n → n < 2 ^ suc j → halvings k n ≡ suc j
unfolding halvings
bits zero zero n le low high = omega arith
bits zero (suc k) n le low high =
    let one : n ≡ 1 = omega arith in
    rw (one, no-halvings k)
bits (suc j) zero n le low high = omega (arith, two-pow-succ j)
bits (suc j) (suc k) zero le low high = omega (arith, pow_pos (suc j))
bits (suc j) (suc k) (suc n) le low high =
    let p = two-pow-succ j in
    let q = two-pow-succ (suc j) in
    rw (bits j k (suc n / 2) (omega arith) (omega arith) (omega arith)) (omega arith)

pub bit-length : (g : ℕ) → 0 < g → g < 2 ^ 64 → bit_length g ≡ 64 - count_leading_zeros 64 g
bit-length g some small =
    let top = leading_top 64 g some small in
    bits top.0 g g (omega arith) top.2 top.3 ∙ omega (arith, top.1)

-- a length covers the gap just where it is at least the smallest
module _ (g n : ℕ) (some : 0 < g) (small : g < 2 ^ 64) (positive : 1 ≤ n) where
  pub covers-from : (bit_length g + 1 + 7) / 8 ≤ n → g < half n
  covers-from h =
      let top = leading_top 64 g some small in
      let is = bits top.0 g g (omega arith) top.2 top.3 in
      let fits : suc top.0 ≤ 8 * n - 1 = omega (arith, is) in
      omega (arith, top.3, pow_mono fits)

  pub covers-only : g < half n → (bit_length g + 1 + 7) / 8 ≤ n
  covers-only h = by (leb (8 * n - 1) top.0) refl
    where
      top : (j : ℕ) × (count_leading_zeros 64 g + suc j ≡ 64) × (2 ^ j ≤ g) × (g < 2 ^ suc j)
      top = leading_top 64 g some small

      by : (b : Bool) → leb (8 * n - 1) top.0 ≡ b → (bit_length g + 1 + 7) / 8 ≤ n
      by true p = omega (arith, pow_mono (leb-true (8 * n - 1) top.0 p), top.2)
      by false p = omega (arith, leb-false (8 * n - 1) top.0 p, bits top.0 g g (omega arith) top.2 top.3)

-- ---- the short number
module _ (m : ℕ) (a : Acknowledged) (n : ℕ) where
  pub shorten-refused : {k : ℕ} → refused k ≡ gap m a → shortened m a n ≡ refused k
  unfolding shortened
  shorten-refused e = rw (← e)

  module _ {g : ℕ} (is : given g ≡ gap m a) where
    pub shorten-empty : n < 1 → shortened m a n ≡ refused 12
    unfolding shortened
    shorten-empty h = rw (← is, lt-leb 1 n h)

    pub shorten-long : 1 ≤ n → 4 < n → shortened m a n ≡ refused 12
    unfolding shortened
    shorten-long p h = rw (← is, le-leb 1 n p, lt-leb n 4 h)

    pub shorten-wide : 1 ≤ n → n ≤ 4 → half n ≤ g → shortened m a n ≡ refused 12
    unfolding shortened
    shorten-wide p q h = rw (← is, le-leb 1 n p, le-leb n 4 q, le-ltb g (half n) h)

    pub shorten-given : 1 ≤ n → n ≤ 4 → g < half n → shortened m a n ≡ given (m % window n)
    unfolding shortened
    shorten-given p q h = rw (← is, le-leb 1 n p, le-leb n 4 q, lt-ltb g (half n) h)
