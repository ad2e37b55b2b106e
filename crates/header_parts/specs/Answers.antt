-- What the function that hands out a part of the header promises, and of each part.
use Rattle.std.specs.Prelude.{ℕ, ◌≡◌, List}
use Rattle.header_fields.specs.Answers.{handed}
use Rattle.header_fields.specs.declared.Part.{Part}
use Rattle.header_forms.specs.Rules.{in_force}
use Rattle.header_reading.specs.PacketHeader.{any_header}
use Rattle.header_reading.specs.Answers.{header_place}

pub record HeaderPart (part : Part) (datagram r : List ℕ) : Type 0 where
  pub answer : r ≡ handed (any_header in_force datagram) (header_place part) datagram

abbrev pub HeaderDestination : (datagram r : List ℕ) → Type 0
HeaderDestination = HeaderPart Part.Destination

abbrev pub HeaderSource : (datagram r : List ℕ) → Type 0
HeaderSource = HeaderPart Part.Source

abbrev pub HeaderToken : (datagram r : List ℕ) → Type 0
HeaderToken = HeaderPart Part.Token
