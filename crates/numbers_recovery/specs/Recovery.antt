-- RFC 9000 appendix A.3: the full number that a short one stands for, where e is expected, over whole numbers.
use Rattle.std.specs.Prelude.{ℕ, ◌+◌, ◌-◌, ◌*◌, ◌/◌, ◌≤◌, ◌<◌, ◌&&◌, cond, leb, ltb}
use Rattle.octets.specs.Outcome.{Outcome, given, unless, ◌>>◌}
use Rattle.numbers.specs.Numbers.{numbers, window, half}

-- the number in the expected number's own window that ends in t
abbrev pub candidate : (e t n : ℕ) → ℕ
candidate e t n = e / window n * window n + t

-- the candidate, or the number a window above or below it where that is closer and in range
unfoldable pub decoded : (e t n : ℕ) → ℕ
decoded e t n =
    cond (leb (candidate e t n + half n) e && ltb (candidate e t n + window n) numbers)
    (candidate e t n + window n)
    (cond (ltb (e + half n) (candidate e t n) && leb (window n) (candidate e t n))
    (candidate e t n - window n)
    (candidate e t n))

unfoldable pub recovered : (e t n : ℕ) → Outcome ℕ
recovered e t n = do
  unless 10 (leb e numbers)
  unless 12 (leb 1 n && leb n 4)
  unless 12 (ltb t (window n))
  unless 10 (ltb (decoded e t n) numbers)
  given (decoded e t n)

-- where a receiver that expects e can tell the number m from its n low bytes
pub record Near (e m n : ℕ) : Type 0 where
  pub below : e < m + half n
  pub above : m ≤ e + half n
