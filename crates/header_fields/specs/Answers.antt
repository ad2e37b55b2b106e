-- What looking for a field answers, as the outcome that it stands for, and the part that stands where it was found.
use Rattle.std.specs.Prelude.{ℕ, List, [], Result}
use Rattle.octets.specs.Outcome.{Outcome, refused, given}
use Rattle.octets.specs.Octets.{part}
use Rattle.octets.specs.Refusals.{outcome}
use Rattle.octets.specs.declared.refusal.Refusal.{Refusal}
use Rattle.header_fields.specs.Fields as Section17
use Rattle.header_fields.specs.declared.Place.{Place}

abbrev pub place_of : Place → Section17.Place
place_of p = record { at = p.at; len = p.len }

abbrev pub found_answer : Result Place Refusal → Outcome Section17.Place
found_answer = outcome place_of

-- the part that a reading found, and nothing where it refuses
abbrev pub handed : {A : Type 0} → Outcome A → (A → Section17.Place) → List ℕ → List ℕ
handed (refused n) place d = []
handed (given a) place d = part d (place a).at (place a).len
