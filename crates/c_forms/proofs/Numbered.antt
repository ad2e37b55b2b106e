-- No refusal is numbered 0, guard by guard: an answer of 0 says then that something is given, and what is reported is of it.
use Prim.Native.Nat.{ℕ, ◌<◌}
use mathlib.Core.Path.{◌≡◌, refl, ap}
use mathlib.Core.Bool.{Bool, true, false}
use mathlib.Core.List.{List}
use native.Mathlib.Omega.{arith}
use Rattle.octets.specs.Outcome.{Outcome, refused, given, unless, ◌>>=◌, ◌>>◌}
use Rattle.octets.proofs.Outcome.{apart}
use Rattle.c_forms.specs.Promises.{Answers}

pub record Numbered {A : Type 0} (o : Outcome A) : Type 0 where
  pub number : (n : ℕ) → refused n ≡ o → 0 < n

-- ---- what an answer of 0 says
pub zero-given : {A : Type 0} {report_of : A → List ℕ} {before report : List ℕ} (o : Outcome A) → Numbered o → Answers o report_of before 0 report
    → (a : A) × (o ≡ given a) × (report ≡ report_of a)
zero-given (refused n) numbered answers = let never : ⊥ = omega (arith, numbered.number n refl, answers.answer) in absurd never
zero-given (given a) numbered answers = (a, refl, answers.reported)

-- ---- guards and steps
pub some : {A : Type 0} {a : A} → Numbered (given a)
some = record { number = λ n e. absurd (apart e) }

-- a refusal alone
pub numbered : {A : Type 0} (n : ℕ) → 0 < n → Numbered {A = A} (refused n)
numbered n positive = record { number = λ m e. let same : m ≡ n = cc in rw same positive }

-- behind a test whose refusal has a number
pub tested : {A : Type 0} (n : ℕ) (b : Bool) {o : Outcome A} → 0 < n → Numbered o → Numbered (unless n b >> o)
tested n true positive rest = rest
tested n false positive rest = numbered n positive

-- a test alone
pub test : (n : ℕ) (b : Bool) → 0 < n → Numbered (unless n b)
test n true positive = some
test n false positive = numbered n positive

-- behind a judgement
pub judged : {A B : Type 0} (o : Outcome A) {rest : Outcome B} → Numbered o → Numbered rest → Numbered (o >> rest)
judged (refused n) numbered rest = record { number = λ m e. let same : m ≡ n = cc in numbered.number m (ap refused same) }
judged (given a) numbered rest = rest

-- behind a step, whatever it gives
pub stepped : {A B : Type 0} (o : Outcome A) {f : A → Outcome B} → Numbered o → ((a : A) → Numbered (f a)) → Numbered (o >>= f)
stepped (refused n) numbered rest = record { number = λ m e. let same : m ≡ n = cc in numbered.number m (ap refused same) }
stepped (given a) numbered rest = rest a
