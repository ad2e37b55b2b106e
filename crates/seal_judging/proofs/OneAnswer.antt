-- What stands for an outcome of sealing is fixed by it; so judging has one answer.
use Prim.Native.Nat.{ℕ}
use mathlib.Core.Path.{◌≡◌}
use Rattle.std.specs.Prelude.{Result}
use Rattle.octets.specs.Outcome.{Outcome}
use Rattle.octets.specs.declared.refusal.Refusal.{Refusal}
use Rattle.octets.proofs.Refusals.{plain-once}
use Rattle.seal_judging.specs.Judging.{sealing_answer}

pub judge-once : {o : Outcome ℕ} {r r' : Result ℕ Refusal} → sealing_answer r ≡ o → sealing_answer r' ≡ o → r ≡ r'
judge-once = plain-once
