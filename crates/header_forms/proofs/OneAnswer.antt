-- Each contract fixes its answer: any two answers that it permits are equal.
use mathlib.Core.Path.{◌≡◌, refl}
use Rattle.std.specs.Prelude.{Result}
use Rattle.octets.specs.Outcome.{Outcome}
use Rattle.octets.specs.declared.refusal.Refusal.{Refusal}
use Rattle.octets.proofs.Refusals.{outcome-once}
use Rattle.header_forms.specs.Answers.{formed_answer}

pub judge-form-once : {o : Outcome (Unit {0})} {r r' : Result (Unit {0}) Refusal} → formed_answer r ≡ o → formed_answer r' ≡ o → r ≡ r'
judge-form-once = outcome-once (λ u. u) (λ u. u) (λ u. refl)
