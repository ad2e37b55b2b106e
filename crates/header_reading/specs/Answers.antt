-- What reading the header of a packet with a number answers, as the outcome that it stands for, and what is promised.
use Rattle.std.specs.Prelude.{ℕ, ◌≡◌, List, Result}
use Rattle.octets.specs.Outcome.{Outcome}
use Rattle.octets.specs.Refusals.{outcome}
use Rattle.octets.specs.declared.refusal.Refusal.{Refusal}
use Rattle.header_forms.specs.Rules.{in_force}
use Rattle.header_fields.specs.Fields.{Place}
use Rattle.header_fields.specs.Answers.{place_of}
use Rattle.header_fields.specs.declared.Part.{Part}
use Rattle.header_reading.specs.PacketHeader as Section17
use Rattle.header_reading.specs.PacketHeader.{any_header}
use Rattle.header_reading.specs.declared.Token.{Token}
use Rattle.header_reading.specs.declared.Header.{Header}

abbrev pub token_of : Token → Section17.Token
token_of t = record { place = place_of t.place; end = t.end }

abbrev pub token_answer : Result Token Refusal → Outcome Section17.Token
token_answer = outcome token_of

abbrev pub header_of : Header → Section17.Header
header_of h = record {
  version = h.version;
  level = h.level;
  destination = place_of h.destination;
  source = place_of h.source;
  token = place_of h.token;
  length' = h.length;
  number_at = h.number_at;
}

-- where a part stands
abbrev pub header_place : Part → Section17.Header → Place
header_place Part.Destination = λ h. h.destination
header_place Part.Source = λ h. h.source
header_place Part.Token = λ h. h.token

abbrev pub reading_answer : Result Header Refusal → Outcome Section17.Header
reading_answer = outcome header_of

pub record ReadHeader (datagram : List ℕ) (r : Result Header Refusal) : Type 0 where
  pub answer : reading_answer r ≡ any_header in_force datagram
