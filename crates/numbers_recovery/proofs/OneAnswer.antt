-- The contract fixes its answer: any two answers that it permits are equal.
use Prim.Native.Nat.{ℕ}
use mathlib.Core.Path.{◌≡◌, refl}
use Rattle.std.specs.Prelude.{Result}
use Rattle.octets.specs.declared.refusal.Refusal.{Refusal}
use Rattle.octets.proofs.Refusals.{outcome-once}
use Rattle.numbers.specs.declared.FullPn.{FullPn}
use Rattle.numbers.specs.declared.TruncatedPn.{TruncatedPn}
use Rattle.numbers_recovery.specs.Answers.{Recover}

pub recover-once : {e n : ℕ} {t : TruncatedPn} {r r' : Result FullPn Refusal} → Recover e t n r → Recover e t n r' → r ≡ r'
recover-once a b = outcome-once (λ m. m.0) (λ m. record { 0 = m }) (λ m. refl) a.answer b.answer
