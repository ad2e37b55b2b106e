-- What an opening gives where a packet was sealed, and what it leaves: the bytes for the lent buffer, and the number expected next.
use Rattle.std.specs.Prelude.{ℕ, ◌+◌, max, List, ◌++◌}
use Rattle.octets.specs.Outcome.{Outcome, refused, given}
use Rattle.header_forms.specs.Rules.{Rules}
use Rattle.header_writing.specs.Written.{Plain}
use Rattle.protection.specs.Protection.{Keys}
use Rattle.protection.specs.Clear.{Opened, what_was_protected}
use Rattle.packets.specs.Packet.{clear_of}

-- all that went into the packet: its plain header, number and payload, and how long it is
abbrev pub what_was_sealed : Rules → Keys → Plain → (packet : List ℕ) → Opened
what_was_sealed rules k p packet = what_was_protected (clear_of rules k.version k.level p) packet

-- plain header, then payload
abbrev pub written : Opened → List ℕ
written o = o.plain ++ o.payload

abbrev pub output : Outcome Opened → Outcome (List ℕ)
output (refused n) = refused n
output (given o) = given (written o)

-- the larger of what was expected and one above the opened number; refused, as it was
abbrev pub after : (expected : ℕ) → Outcome Opened → ℕ
after e (refused n) = e
after e (given o) = max e (o.packet_number + 1)
