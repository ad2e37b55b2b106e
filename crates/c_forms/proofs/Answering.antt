-- What C is answered and told, by what an entry point answered.
use Prim.Native.Nat.{ℕ}
use mathlib.Core.Path.{◌≡◌, ap, subst, ◌∙◌}
use mathlib.Core.List.{List, [], ◌∷◌}
use lib.ListN.{length}
use Rattle.std.specs.Prelude.{Result, Ok, Err}
use Rattle.std.specs.Result.{MatchResult, IsOkAnd}
use Rattle.octets.specs.Outcome.{Outcome, refused, given}
use Rattle.octets.specs.Octets.{placed, length_given}
use Rattle.octets.specs.Refusals.{outcome}
use Rattle.octets.specs.declared.refusal.Refusal.{Refusal}
use Rattle.c_forms.specs.Promises.{answered, told, Answers, Writes}

-- an answer of the code is told by what its value is mapped to
pub telling : {V A T : Type 0} (value : V → A) {report_of : A → List T} {P : V → List T → Type 0} (x : Result V Refusal) (m : Result (List T) Refusal) {before after : List T} {r : ℕ}
    → MatchResult x (λ v. IsOkAnd m (P v)) (λ e. m ≡ Err e) → ((v : V) (report : List T) → P v report → report ≡ report_of (value v))
    → Answers (outcome (λ ns. ns) m) (λ ns. ns) before r after → Answers (outcome value x) report_of before r after
telling value (Ok v) (Ok ns) mapped is was = record { answer = was.answer; reported = was.reported ∙ is v ns mapped }
telling value (Ok v) (Err why) mapped is was = absurd mapped
telling value (Err why) m {before = before} mapped is was =
    let o = ap (outcome (λ ns. ns)) mapped in
    record { answer = was.answer ∙ ap answered o; reported = was.reported ∙ ap (λ x. told (λ ns. ns) x before) o }

-- and so is the outcome that it stands for
pub reporting : {V A T : Type 0} (value : V → A) {report_of : A → List T} {P : V → List T → Type 0} (x : Result V Refusal) (m : Result (List T) Refusal) {o : Outcome A} {before after : List T} {r : ℕ}
    → outcome value x ≡ o → MatchResult x (λ v. IsOkAnd m (P v)) (λ e. m ≡ Err e) → ((v : V) (report : List T) → P v report → report ≡ report_of (value v))
    → Answers (outcome (λ ns. ns) m) (λ ns. ns) before r after → Answers o report_of before r after
reporting value {report_of = report_of} x m {before = before} {after = after} {r = r} means mapped is was =
    subst (λ o. Answers o report_of before r after) means (telling value x m mapped is was)

-- ---- an outcome's lengths are reported as the outcome is
abbrev pub one : ℕ → List ℕ
one n = n ∷ []

module _ {before : List ℕ} {r : ℕ} {report : List ℕ} where
  lengths : (o : Outcome (List ℕ)) → Answers (length_given o) one before r report → Answers o (λ packet. length packet ∷ []) before r report
  lengths (refused n) a = record { answer = a.answer; reported = a.reported }
  lengths (given packet) a = record { answer = a.answer; reported = a.reported }

  pub writing : (o : Outcome (List ℕ)) {buffer then : List ℕ} → Answers (length_given o) one before r report → then ≡ placed o buffer → Writes o before r report buffer then
  writing o a written = record { answers = lengths o a; written = written }
