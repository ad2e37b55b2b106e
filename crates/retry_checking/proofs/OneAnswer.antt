-- The contract fixes its answer: any two that it permits are equal.
use Prim.Native.Nat.{ℕ}
use mathlib.Core.Path.{◌≡◌, refl}
use mathlib.Core.List.{List}
use Rattle.std.specs.Prelude.{Result}
use Rattle.octets.specs.declared.refusal.Refusal.{Refusal}
use Rattle.octets.proofs.Refusals.{outcome-once}
use Rattle.header_fields.proofs.OneAnswer.{place_back}
use Rattle.retry_checking.specs.Retry as Section17
use Rattle.retry_checking.specs.Answers.{fields_of, CheckRetry}
use Rattle.retry_checking.specs.declared.RetryFields.{RetryFields}

abbrev fields_back : Section17.RetryFields → RetryFields
fields_back f = record {
  version = f.version;
  destination = place_back f.destination;
  source = place_back f.source;
  token = place_back f.token;
}

pub check-retry-once : {original d : List ℕ} {r r' : Result RetryFields Refusal} → CheckRetry original d r → CheckRetry original d r' → r ≡ r'
check-retry-once a b = outcome-once fields_of fields_back (λ f. refl) a.answer b.answer
