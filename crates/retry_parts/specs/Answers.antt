-- What the function that hands out a part of a Retry promises, and of each part.
use Rattle.std.specs.Prelude.{ℕ, ◌≡◌, List}
use Rattle.header_forms.specs.Rules.{in_force}
use Rattle.header_fields.specs.Answers.{handed}
use Rattle.header_fields.specs.declared.Part.{Part}
use Rattle.retry_checking.specs.Retry.{retry_checked}
use Rattle.retry_checking.specs.Answers.{retry_place}

pub record RetryPart (part : Part) (original datagram r : List ℕ) : Type 0 where
  pub answer : r ≡ handed (retry_checked in_force original datagram) (retry_place part) datagram

abbrev pub RetryDestination : (original datagram r : List ℕ) → Type 0
RetryDestination = RetryPart Part.Destination

abbrev pub RetrySource : (original datagram r : List ℕ) → Type 0
RetrySource = RetryPart Part.Source

abbrev pub RetryToken : (original datagram r : List ℕ) → Type 0
RetryToken = RetryPart Part.Token
