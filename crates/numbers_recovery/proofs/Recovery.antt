-- Appendix A.3: what recovery comes to, by what the tests show; and within half a window of what is expected
-- the short number gives the full one back.
use Prim.Native.Nat.{ℕ, zero, suc, ◌+◌, ◌-◌, ◌*◌, ◌/◌, ◌%◌, ◌^◌, ◌≤◌, ◌<◌}
use mathlib.Core.Path.{◌≡◌, refl, ap, ◌∙◌}
use native.Mathlib.Nat.{mod-lt, div-add-mod', div-lt_iff_lt-mul, two-pow-succ}
use native.Mathlib.Omega.{arith}
use lib.Pow.{pow_pos, pow_mono}
use borrow.Author.Tests.{le-leb, lt-leb, lt-ltb, le-ltb}
use Rattle.octets.specs.Outcome.{refused, given}
use Rattle.numbers.specs.Numbers.{numbers, window, half}
use Rattle.numbers_recovery.specs.Recovery.{candidate, decoded, recovered, Near}

-- ---- the candidate, or the number a window above or below it
module _ (e t n : ℕ) where
  pub decoded-above : candidate e t n + half n ≤ e → candidate e t n + window n < numbers → decoded e t n ≡ candidate e t n + window n
  unfolding decoded
  decoded-above low fits = rw (le-leb (candidate e t n + half n) e low, lt-ltb (candidate e t n + window n) numbers fits)

  pub decoded-top : candidate e t n + half n ≤ e → numbers ≤ candidate e t n + window n → decoded e t n ≡ candidate e t n
  unfolding decoded
  decoded-top low top =
      rw (le-leb (candidate e t n + half n) e low, le-ltb (candidate e t n + window n) numbers top, le-ltb (e + half n) (candidate e t n) (omega arith))

  pub decoded-below : e + half n < candidate e t n → window n ≤ candidate e t n → decoded e t n ≡ candidate e t n - window n
  unfolding decoded
  decoded-below high fits =
      rw (lt-leb (candidate e t n + half n) e (omega arith), lt-ltb (e + half n) (candidate e t n) high, le-leb (window n) (candidate e t n) fits)

  pub decoded-bottom : e + half n < candidate e t n → candidate e t n < window n → decoded e t n ≡ candidate e t n
  unfolding decoded
  decoded-bottom high bottom =
      rw (lt-leb (candidate e t n + half n) e (omega arith), lt-ltb (e + half n) (candidate e t n) high, lt-leb (window n) (candidate e t n) bottom)

  pub decoded-here : e < candidate e t n + half n → candidate e t n ≤ e + half n → decoded e t n ≡ candidate e t n
  unfolding decoded
  decoded-here low high = rw (lt-leb (candidate e t n + half n) e low, le-ltb (e + half n) (candidate e t n) high)

-- a window of one to four bytes
pub window-size : (n : ℕ) → n ≤ 4 → window n ≤ 2 ^ 32
window-size n short = let small : 8 * n ≤ 32 = omega arith in pow_mono small

pub half-size : (n : ℕ) → half n ≤ window n
half-size n = let less : 8 * n - 1 ≤ 8 * n = omega arith in pow_mono less

-- the start of the expected number's window is at most that number
pub window-start : (e n : ℕ) → e / window n * window n ≤ e
window-start e n = omega (arith, div-add-mod' e (window n))

-- ---- refusals in their order, then the number
module _ (e t n : ℕ) where
  pub recover-far : numbers < e → recovered e t n ≡ refused 10
  unfolding recovered
  recover-far h = rw (lt-leb e numbers h)

  module _ (fair : e ≤ numbers) where
    pub recover-empty : n < 1 → recovered e t n ≡ refused 12
    unfolding recovered
    recover-empty h = rw (le-leb e numbers fair, lt-leb 1 n h)

    pub recover-long : 1 ≤ n → 4 < n → recovered e t n ≡ refused 12
    unfolding recovered
    recover-long p h = rw (le-leb e numbers fair, le-leb 1 n p, lt-leb n 4 h)

    module _ (positive : 1 ≤ n) (short : n ≤ 4) where
      pub recover-wide : window n ≤ t → recovered e t n ≡ refused 12
      unfolding recovered
      recover-wide h = rw (le-leb e numbers fair, le-leb 1 n positive, le-leb n 4 short, le-ltb t (window n) h)

      pub recover-range : t < window n → numbers ≤ decoded e t n → recovered e t n ≡ refused 10
      unfolding recovered
      recover-range s h = rw (le-leb e numbers fair, le-leb 1 n positive, le-leb n 4 short, lt-ltb t (window n) s, le-ltb (decoded e t n) numbers h)

      pub recover-given : t < window n → decoded e t n < numbers → recovered e t n ≡ given (decoded e t n)
      unfolding recovered
      recover-given s h = rw (le-leb e numbers fair, le-leb 1 n positive, le-leb n 4 short, lt-ltb t (window n) s, lt-ltb (decoded e t n) numbers h)

-- ---- recovery inverts shortening
-- two numbers that are at most one apart
data Beside (p q : ℕ) : Type 0 where
  same : p ≡ q → Beside p q
  next : suc p ≡ q → Beside p q
  before : p ≡ suc q → Beside p q

one_more : {p q : ℕ} → Beside p q → Beside (suc p) (suc q)
one_more (same h) = same (ap suc h)
one_more (next h) = next (ap suc h)
one_more (before h) = before (ap suc h)

beside : (p q : ℕ) → p < q + 2 → q < p + 2 → Beside p q
beside zero zero h k = same refl
beside zero (suc q) h k = next (omega arith)
beside (suc p) zero h k = before (omega arith)
beside (suc p) (suc q) h k = one_more (beside p q (omega arith) (omega arith))

-- two halves make a window
halves : (n : ℕ) → 1 ≤ n → window n ≡ half n + half n
halves n positive =
    let one_more : 8 * n ≡ suc (8 * n - 1) = omega arith in
    ap (λ (k : ℕ). 2 ^ k) one_more ∙ two-pow-succ (8 * n - 1)

module _ (e m n : ℕ) (positive : 1 ≤ n) (near : Near e m n) where
  -- the windows of the expected number and of the number are the same, or stand side by side
  windows : Beside (e / window n) (m / window n)
  windows =
      let p : 0 < window n = pow_pos (8 * n) in
      let two = halves n positive in
      let of-e = div-add-mod' e (window n) in
      let of-m = div-add-mod' m (window n) in
      let in_e = mod-lt e p in
      let in-m = mod-lt m p in
      beside (e / window n) (m / window n) ((div-lt_iff_lt-mul p).1 (omega arith)) ((div-lt_iff_lt-mul p).1 (omega arith))

  -- so the number is the candidate, or one window above it, or one below
  pub recovery : m < numbers → decoded e (m % window n) n ≡ m
  recovery small = by windows
    where
      c : ℕ
      c = candidate e (m % window n) n

      by : Beside (e / window n) (m / window n) → decoded e (m % window n) n ≡ m
      by (same q) =
          let is : c ≡ m = rw q (div-add-mod' m (window n)) in
          decoded-here e (m % window n) n (omega (arith, near.below)) (omega (arith, near.above)) ∙ is
      by (next q) =
          let is : c + window n ≡ m = omega (arith, div-add-mod' m (window n), ap (λ (k : ℕ). k * window n) q) in
          decoded-above e (m % window n) n (omega (arith, halves n positive)) (omega arith) ∙ is
      by (before q) =
          let is : c ≡ m + window n = omega (arith, div-add-mod' m (window n), ap (λ (k : ℕ). k * window n) q) in
          decoded-below e (m % window n) n (omega (arith, halves n positive)) (omega arith) ∙ omega arith

  pub recovered-back : n ≤ 4 → e ≤ numbers → m < numbers → recovered e (m % window n) n ≡ given m
  recovered-back short fair small =
      let is = recovery small in
      recover-given e (m % window n) n fair positive short (mod-lt m (pow_pos (8 * n))) (omega arith) ∙ ap given is
