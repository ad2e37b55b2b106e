-- The contract fixes its answer, and what is written: any two that it permits are equal.
use Prim.Native.Nat.{ℕ}
use mathlib.Core.Path.{◌≡◌, sym, ◌∙◌}
use mathlib.Core.List.{List}
use Rattle.std.specs.Prelude.{Result}
use Rattle.octets.specs.declared.refusal.Refusal.{Refusal}
use Rattle.octets.proofs.Refusals.{plain-once}
use Rattle.retry_writing.specs.Answers.{WriteRetry}

pub write-retry-once : {v : ℕ} {original destination source token : List ℕ} {low : ℕ} {before : List ℕ} {r r' : Result ℕ Refusal} {after after' : List ℕ}
    → WriteRetry v original destination source token low before r after → WriteRetry v original destination source token low before r' after'
    → (r ≡ r') × (after ≡ after')
write-retry-once a b = (plain-once a.answer b.answer, a.output ∙ sym b.output)
