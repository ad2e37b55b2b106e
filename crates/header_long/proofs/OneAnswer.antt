-- Each contract fixes its answer: any two answers that it permits are equal.
use Prim.Native.Nat.{ℕ}
use mathlib.Core.Path.{◌≡◌, refl}
use Rattle.std.specs.Prelude.{Result}
use Rattle.octets.specs.Outcome.{Outcome}
use Rattle.octets.specs.declared.refusal.Refusal.{Refusal}
use Rattle.octets.proofs.Refusals.{outcome-once}
use Rattle.header_fields.proofs.OneAnswer.{place_back}
use Rattle.header_long.specs.LongHeader as Section17
use Rattle.header_long.specs.Answers.{long_of, long_answer}
use Rattle.header_long.specs.declared.Long.{Long}

long_back : Section17.Long ℕ → Long
long_back l = record { version = l.version; kind = l.kind; destination = place_back l.destination; source = place_back l.source }

long-back : (l : Long) → long_back (long_of l) ≡ l
unfolding long_back
long-back l = refl

-- whoever reads: one outcome is one answer
pub read-long-once : {o : Outcome (Section17.Long ℕ)} {r r' : Result Long Refusal} → long_answer r ≡ o → long_answer r' ≡ o → r ≡ r'
read-long-once = outcome-once long_of long_back long-back
