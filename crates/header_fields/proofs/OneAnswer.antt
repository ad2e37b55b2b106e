-- Each contract fixes its answer: any two answers that it permits are equal.
use mathlib.Core.Path.{◌≡◌, refl}
use Rattle.std.specs.Prelude.{Result}
use Rattle.octets.specs.Outcome.{Outcome}
use Rattle.octets.specs.declared.refusal.Refusal.{Refusal}
use Rattle.octets.proofs.Refusals.{outcome-once}
use Rattle.header_fields.specs.Fields as Section17
use Rattle.header_fields.specs.Answers.{place_of, found_answer}
use Rattle.header_fields.specs.declared.Place.{Place}

abbrev pub place_back : Section17.Place → Place
place_back p = record { at = p.at; len = p.len }

-- of whichever field: one outcome is one answer
pub found-once : {o : Outcome Section17.Place} {r r' : Result Place Refusal} → found_answer r ≡ o → found_answer r' ≡ o → r ≡ r'
found-once = outcome-once place_of place_back (λ p. refl)
