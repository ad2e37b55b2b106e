-- The contract fixes its answer: any two answers that it permits are equal.
use mathlib.Core.Path.{◌≡◌, refl}
use mathlib.Core.List.{List}
use Prim.Native.Nat.{ℕ}
use Rattle.std.specs.Prelude.{Result}
use Rattle.octets.specs.declared.refusal.Refusal.{Refusal}
use Rattle.octets.proofs.Refusals.{outcome-once}
use Rattle.integers.specs.Answers.{integer_of, ReadInteger}
use Rattle.integers.specs.declared.Integer.{Integer}

pub read-integer-once : {s : List ℕ} {r r' : Result Integer Refusal} → ReadInteger s r → ReadInteger s r' → r ≡ r'
read-integer-once a b = outcome-once integer_of (λ i. record { value = i.value; taken = i.taken }) (λ i. refl) a.answer b.answer
