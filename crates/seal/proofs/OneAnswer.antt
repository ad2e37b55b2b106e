-- What sealing promises permits one answer and one buffer only.
use mathlib.Core.Path.{◌≡◌, sym, ◌∙◌}
use Prim.Native.Nat.{ℕ}
use mathlib.Core.List.{List}
use Rattle.std.specs.Prelude.{Result}
use Rattle.octets.specs.declared.refusal.Refusal.{Refusal}
use Rattle.numbers_shortening.specs.Shortening.{Acknowledged}
use Rattle.header_writing.specs.Written.{Plain}
use Rattle.protection.specs.Protection.{Keys}
use Rattle.seal_judging.proofs.OneAnswer.{judge-once}
use Rattle.seal.specs.Sealing.{Seal}

pub seal-once : {k : Keys} {a : Acknowledged} {p : Plain} {before : List ℕ} {r r' : Result ℕ Refusal} {after after' : List ℕ}
    → Seal k a p before r after → Seal k a p before r' after' → (r ≡ r') × (after ≡ after')
seal-once s t = (judge-once s.answer t.answer, s.output ∙ sym t.output)
