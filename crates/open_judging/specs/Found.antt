-- A packet found in a datagram, before its tag is judged.
use Rattle.std.specs.Prelude.{ℕ, ◌+◌, ◌≤◌, ◌<◌, ◌≡◌, List, Result, Ok, Err}
use Rattle.octets.specs.Outcome.{refused}
use Rattle.octets.specs.Refusals.{number_of}
use Rattle.octets.specs.declared.refusal.Refusal.{Refusal}
use Rattle.numbers.specs.Numbers.{numbers}
use Rattle.header_forms.specs.Rules.{in_force}
use Rattle.header_fields.specs.Fields.{tag_length}
use Rattle.protection.specs.Protection.{Keys}
use Rattle.protection.specs.AesGcm.{aes_gcm}
use Rattle.packets.specs.Packet.{opened}
use Rattle.open_unmasking.specs.Parts.{Within}
use Rattle.open_unmasking.specs.declared.Packet.{Packet}
use Rattle.open_unmasking.specs.declared.located.Located.{Located}
use Rattle.open_revealing.specs.Revealing.{tag_left}

-- all but the tag is judged
pub record Found (k : Keys) (expected : ℕ) (d : List ℕ) (room : ℕ) (p : Packet) : Type 0 where
  pub within : Within d p
  pub holds : p.place + p.length ≤ room + tag_length
  pub small : p.number.0 < numbers
  pub left : opened aes_gcm in_force k expected d room ≡ tag_left k d p

abbrev pub Finds : Keys → (expected : ℕ) (d : List ℕ) (room : ℕ) → Result Located Refusal → Type 0
Finds k expected d room (Err why) = opened aes_gcm in_force k expected d room ≡ refused (number_of why)
Finds k expected d room (Ok l) = (l.datagram.now ≡ d) × Found k expected d room l.packet
