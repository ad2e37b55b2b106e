-- The code's answers as what they stand for, and what checking promises.
use Rattle.std.specs.Prelude.{ℕ, ◌≡◌, List, Result}
use Rattle.octets.specs.Outcome.{Outcome}
use Rattle.octets.specs.Refusals.{outcome}
use Rattle.octets.specs.declared.refusal.Refusal.{Refusal}
use Rattle.header_forms.specs.Rules.{in_force}
use Rattle.header_fields.specs.Fields.{Place}
use Rattle.header_fields.specs.Answers.{place_of}
use Rattle.header_fields.specs.declared.Part.{Part}
use Rattle.retry_checking.specs.Retry as Section17
use Rattle.retry_checking.specs.Retry.{retry_checked}
use Rattle.retry_checking.specs.declared.RetryFields.{RetryFields}

abbrev pub fields_of : RetryFields → Section17.RetryFields
fields_of f = record {
  version = f.version;
  destination = place_of f.destination;
  source = place_of f.source;
  token = place_of f.token;
}

-- where a part stands
abbrev pub retry_place : Part → Section17.RetryFields → Place
retry_place Part.Destination = λ f. f.destination
retry_place Part.Source = λ f. f.source
retry_place Part.Token = λ f. f.token

abbrev pub checking_answer : Result RetryFields Refusal → Outcome Section17.RetryFields
checking_answer = outcome fields_of

pub record CheckRetry (original datagram : List ℕ) (r : Result RetryFields Refusal) : Type 0 where
  pub answer : checking_answer r ≡ retry_checked in_force original datagram
