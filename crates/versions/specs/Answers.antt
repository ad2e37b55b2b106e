-- What looking for a type's level answers, as the outcome that it stands for.
use Rattle.std.specs.Prelude.{ℕ, Result}
use Rattle.octets.specs.Outcome.{Outcome}
use Rattle.octets.specs.Refusals.{outcome}
use Rattle.octets.specs.declared.refusal.Refusal.{Refusal}

abbrev pub level_answer : Result ℕ Refusal → Outcome ℕ
level_answer = outcome (λ l. l)
