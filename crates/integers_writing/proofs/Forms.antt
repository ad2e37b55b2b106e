-- The smallest form of an integer by its size, and how long each form is.
use Prim.Native.Nat.{ℕ, ◌+◌, ◌^◌, ◌≤◌, ◌<◌}
use mathlib.Core.Path.{◌≡◌, refl, ap, ◌∙◌}
use mathlib.Core.Bool.{Bool, true, false}
use lib.Dec.{ltb}
use native.Mathlib.Omega.{arith}
use lib.ListN.{length}
use borrow.Author.Tests.{lt-ltb, le-ltb, ltb-true, ltb-false}
use Rattle.octets.specs.Octets.{bytes}
use Rattle.octets.proofs.Numbers.{bytes-length}
use Rattle.integers_writing.specs.Written.{smallest, two}

pub two_bytes : (n : ℕ) → length (two n) ≡ 2
unfolding two
two_bytes n = bytes-length 2 _

module _ (n : ℕ) where
  pub smallest-one : n < 2 ^ 6 → smallest n ≡ bytes 1 n
  unfolding smallest
  smallest-one h = rw (lt-ltb n (2 ^ 6) h)

  pub smallest-two : 2 ^ 6 ≤ n → n < 2 ^ 14 → smallest n ≡ two n
  unfolding smallest
  smallest-two l h = rw (le-ltb n (2 ^ 6) l, lt-ltb n (2 ^ 14) h)

  pub smallest-four : 2 ^ 14 ≤ n → smallest n ≡ bytes 4 (2 ^ 31 + n)
  unfolding smallest
  smallest-four l = rw (le-ltb n (2 ^ 6) (omega arith), le-ltb n (2 ^ 14) l)

  pub one-length : n < 2 ^ 6 → length (smallest n) ≡ 1
  one-length h = ap length (smallest-one h) ∙ bytes-length 1 n

  pub two-length : 2 ^ 6 ≤ n → n < 2 ^ 14 → length (smallest n) ≡ 2
  two-length l h = ap length (smallest-two l h) ∙ two_bytes n

  pub four-length : 2 ^ 14 ≤ n → length (smallest n) ≡ 4
  four-length l = ap length (smallest-four l) ∙ bytes-length 4 (2 ^ 31 + n)

-- at most four bytes
pub smallest-few : (n : ℕ) → length (smallest n) ≤ 4
smallest-few n = by (ltb n (2 ^ 6)) (ltb n (2 ^ 14)) refl refl
  where
    by : (a b : Bool) → ltb n (2 ^ 6) ≡ a → ltb n (2 ^ 14) ≡ b → length (smallest n) ≤ 4
    by true b p q = omega (arith, one-length n (ltb-true n (2 ^ 6) p))
    by false true p q = omega (arith, two-length n (ltb-false n (2 ^ 6) p) (ltb-true n (2 ^ 14) q))
    by false false p q = omega (arith, four-length n (ltb-false n (2 ^ 14) q))
