-- What C is promised of a header: RFC 9000 section 17.2.
use Rattle.std.specs.Prelude.{ℕ, List, [], ◌∷◌}
use Rattle.header_forms.specs.Rules.{in_force}
use Rattle.header_reading.specs.PacketHeader.{Header, any_header}
use Rattle.c_forms.specs.Promises.{Answers}

-- version; place and length of destination, source and token; Length; place of the number; level
abbrev pub header_numbers : Header → List ℕ
header_numbers h =
    h.version
    ∷ h.destination.at ∷ h.destination.len
    ∷ h.source.at ∷ h.source.len
    ∷ h.token.at ∷ h.token.len
    ∷ h.length'
    ∷ h.number_at
    ∷ h.level
    ∷ []

abbrev pub DwReadHeader : (datagram before : List ℕ) (r : ℕ) (report : List ℕ) → Type 0
DwReadHeader datagram = Answers (any_header in_force datagram) header_numbers
