-- Sealing and opening: RFC 9001 section 5, over any suite and any rules, in the order of docs/SCOPE.md, "Order of refusals".
use Rattle.std.specs.Prelude.{ℕ, ◌+◌, ◌-◌, List, ◌&&◌, leb, eqb, length, take}
use Rattle.octets.specs.Outcome.{Outcome, given, unless, ◌>>=◌, ◌>>◌}
use Rattle.numbers_shortening.specs.Shortening.{Acknowledged, shortened}
use Rattle.numbers.specs.Numbers.{numbers}
use Rattle.versions.specs.Versions.{known}
use Rattle.header_forms.specs.Rules.{Rules}
use Rattle.header_forms.specs.Forms.{long_form, formed}
use Rattle.header_fields.specs.Fields.{longest_id, tag_length}
use Rattle.header_long.specs.LongHeader.{Judge, of_level}
use Rattle.header_reading.specs.PacketHeader.{header}
use Rattle.header_writing.specs.Written.{writes, Plain, first_byte, fields}
use Rattle.protection.specs.Suite.{Suite}
use Rattle.protection.specs.Protection.{Keys}
use Rattle.protection.specs.Clear.{Clear, protected, Opened, unprotected}

-- a packet in the clear, of a version and a level
abbrev pub clear_of : Rules → (v level : ℕ) → Plain → Clear
clear_of rules v level p = record {
  first = first_byte v level p;
  fields = fields rules v p;
  packet_number = p.packet_number;
  number_length = p.number_length;
  payload = p.payload;
}

-- the packets that keys are for: of their version and their level
abbrev pub of_keys : Keys → Judge ℕ
of_keys k = of_level (λ v. eqb v k.version) k.level

module _ (suite : Suite) (rules : Rules) where
  -- ---- sealing
  abbrev pub packet_of : Keys → Plain → List ℕ
  packet_of k p = protected suite long_form k (clear_of rules k.version k.level p)

  unfoldable pub sealed : Keys → Acknowledged → Plain → (room : ℕ) → Outcome (List ℕ)
  sealed k a p room = do
    unless 4 (known k.version)
    unless 6 (writes p.token k.level)
    short ← shortened p.packet_number a p.number_length
    unless 5 (leb (length p.destination) longest_id && leb (length p.source) longest_id)
    unless 7 (leb 4 (p.number_length + length p.payload))
    unless 1 (leb (length (packet_of k p)) rules.limit)
    unless 8 (leb (length (packet_of k p)) room)
    given (packet_of k p)

  -- ---- opening
  unfoldable pub opened : Keys → (expected : ℕ) (datagram : List ℕ) (room : ℕ) → Outcome Opened
  opened k e d room = do
    unless 10 (leb e numbers)
    unless 4 (known k.version)
    formed rules long_form d
    h ← header (of_keys k) d
    let packet = take (h.number_at + h.length') d
    unless 8 (leb (length packet - tag_length) room)
    unprotected suite long_form k e packet h.number_at
