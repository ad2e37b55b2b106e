-- Looking for a type's level has one answer.
use Prim.Native.Nat.{ℕ}
use mathlib.Core.Path.{◌≡◌}
use Rattle.std.specs.Prelude.{Result}
use Rattle.octets.specs.Outcome.{Outcome}
use Rattle.octets.specs.declared.refusal.Refusal.{Refusal}
use Rattle.octets.proofs.Refusals.{plain-once}
use Rattle.versions.specs.Answers.{level_answer}

pub level-of-once : {o : Outcome ℕ} {r r' : Result ℕ Refusal} → level_answer r ≡ o → level_answer r' ≡ o → r ≡ r'
level-of-once = plain-once
