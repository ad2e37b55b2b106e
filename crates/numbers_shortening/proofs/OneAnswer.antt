-- Each contract fixes its answer: any two answers that it permits are equal.
use Prim.Native.Nat.{ℕ}
use mathlib.Core.Path.{◌≡◌, refl}
use Rattle.std.specs.Prelude.{Option, Result}
use Rattle.octets.specs.declared.refusal.Refusal.{Refusal}
use Rattle.octets.proofs.Refusals.{outcome-once, plain-once}
use Rattle.numbers.specs.declared.FullPn.{FullPn}
use Rattle.numbers.specs.declared.TruncatedPn.{TruncatedPn}
use Rattle.numbers_shortening.specs.Answers.{SmallestLength, Shorten}

pub smallest-length-once : {m : FullPn} {a : Option FullPn} {r r' : Result ℕ Refusal} → SmallestLength m a r → SmallestLength m a r' → r ≡ r'
smallest-length-once a b = plain-once a.answer b.answer

pub shorten-once : {m : FullPn} {a : Option FullPn} {n : ℕ} {r r' : Result TruncatedPn Refusal} → Shorten m a n r → Shorten m a n r' → r ≡ r'
shorten-once a b = outcome-once (λ t. t.0) (λ t. record { 0 = t }) (λ t. refl) a.answer b.answer
