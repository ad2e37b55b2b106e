-- The value of a character, and the run of digits at a text's start.
use Prim.Native.Nat.{ℕ, ◌-◌, ◌<◌, ◌≤◌}
use mathlib.Core.Bool.{Bool, true, false}
use mathlib.Core.List.{List, [], ◌∷◌}
use mathlib.Core.Path.{◌≡◌, refl}
use native.Mathlib.Omega.{arith}
use borrow.Author.Tests.{le-leb, lt-leb, ltb-true, ltb-false}
use lib.Dec.{leb, ltb}
use lib.ListN.{length}
use Rattle.std.specs.Prelude.{Option, Some, None, cond}
use Rattle.std.specs.List.{position_or_len}
use Rattle.std.specs.Option.{unwrap_or}
use Rattle.digits_reading.specs.Digits.{value_of, run}

-- ---- between the digits and the letters, in the order of the characters
module _ (c : ℕ) where
  pub before-digits : c < 48 → value_of c ≡ 16
  unfolding value_of
  before-digits h = simp (lt-leb 48 c h, lt-leb 65 c (omega arith), lt-leb 97 c (omega arith))

  pub at-digit : 48 ≤ c → c ≤ 57 → value_of c ≡ c - 48
  unfolding value_of
  at-digit a b = simp (le-leb 48 c a, le-leb c 57 b)

  pub before-capitals : 57 < c → c < 65 → value_of c ≡ 16
  unfolding value_of
  before-capitals a b = simp (le-leb 48 c (omega arith), lt-leb c 57 a, lt-leb 65 c b, lt-leb 97 c (omega arith))

  pub at-capital : 65 ≤ c → c ≤ 70 → value_of c ≡ c - 55
  unfolding value_of
  at-capital a b = simp (le-leb 48 c (omega arith), lt-leb c 57 (omega arith), le-leb 65 c a, le-leb c 70 b)

  pub before-letters : 70 < c → c < 97 → value_of c ≡ 16
  unfolding value_of
  before-letters a b =
      simp (le-leb 48 c (omega arith), lt-leb c 57 (omega arith), le-leb 65 c (omega arith), lt-leb c 70 a, lt-leb 97 c b)

  pub at-letter : 97 ≤ c → c ≤ 102 → value_of c ≡ c - 87
  unfolding value_of
  at-letter a b =
      simp (
        le-leb 48 c (omega arith),
        lt-leb c 57 (omega arith),
        le-leb 65 c (omega arith),
        lt-leb c 70 (omega arith),
        le-leb 97 c a,
        le-leb c 102 b,
      )

  pub behind-letters : 102 < c → value_of c ≡ 16
  unfolding value_of
  behind-letters a =
      simp (
        le-leb 48 c (omega arith),
        lt-leb c 57 (omega arith),
        le-leb 65 c (omega arith),
        lt-leb c 70 (omega arith),
        le-leb 97 c (omega arith),
        lt-leb c 102 a,
      )

-- ---- the run of digits goes up to the first character that is none
pub run-position : (base : ℕ) (t : List ℕ) → position_or_len (λ c. leb base (value_of c)) t ≡ run base t
unfolding run
run-position base [] = refl
run-position base (c ∷ t) = by (run-position base t) (ltb (value_of c) base) refl
  where
    by : position_or_len (λ d. leb base (value_of d)) t ≡ run base t → (b : Bool) → ltb (value_of c) base ≡ b
        → position_or_len (λ d. leb base (value_of d)) (c ∷ t) ≡ run base (c ∷ t)
    by rest true p = rw (p, lt-leb base (value_of c) (ltb-true _ _ p)) (omega (arith, rest))
    by rest false p = rw (p, le-leb base (value_of c) (ltb-false _ _ p)) refl

pub run-le : (base : ℕ) (t : List ℕ) → run base t ≤ length t
unfolding run
run-le base [] = omega arith
run-le base (c ∷ t) = by (run-le base t) (ltb (value_of c) base) refl
  where
    by : run base t ≤ length t → (b : Bool) → ltb (value_of c) base ≡ b → run base (c ∷ t) ≤ length (c ∷ t)
    by rest true p = rw p (omega arith)
    by rest false p = rw p (omega arith)

-- the place of the first character that is no digit, or the end
pub run-or-end : (base : ℕ) (t : List ℕ) (found : Option ℕ) → found ≡ cond (ltb (run base t) (length t)) (Some (run base t)) None
    → unwrap_or found (length t) ≡ run base t
run-or-end base t found is = rw is (by (ltb (run base t) (length t)) refl)
  where
    by : (b : Bool) → ltb (run base t) (length t) ≡ b → unwrap_or (cond b (Some (run base t)) None) (length t) ≡ run base t
    by true p = refl
    by false p = omega (arith, ltb-false _ _ p, run-le base t)
