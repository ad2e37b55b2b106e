-- What C gets back of a packet that it sealed.
use Rattle.std.specs.Prelude.{ℕ, ◌+◌, ◌≤◌, max, ◌≡◌, List, [], ◌∷◌, ◌++◌, length, take}
use Rattle.octets.specs.Octets.{begun}
use Rattle.numbers.specs.Numbers.{numbers}
use Rattle.numbers_recovery.specs.Recovery.{Near}
use Rattle.header_fields.specs.Fields.{tag_length}
use Rattle.header_forms.specs.Rules.{in_force}
use Rattle.header_writing.specs.Written.{Plain}
use Rattle.protection.specs.Clear.{plain_header}
use Rattle.packets.specs.Packet.{clear_of}
use Rattle.c_key_record.specs.Layout.{keys_in}
use Rattle.c_seal.specs.Promises.{DwSeal}
use Rattle.c_open.specs.Promises.{DwOpen}

-- a packet that was sealed into a buffer, which held other bytes before, and was reported with its size
pub record Sealed (keys : List ℕ) (p : Plain) (size : ℕ) (then : List ℕ) : Type 0 where
  pub any : ℕ
  pub acknowledged : ℕ
  pub before : List ℕ
  pub buffer : List ℕ
  pub promised : DwSeal keys any acknowledged p before 0 (size ∷ []) buffer then

-- it comes in a datagram that is not too large, to a receiver that expects a number near its own and has room for the answer
pub record Comes (p : Plain) (size : ℕ) (datagram : List ℕ) (expected : ℕ) (room : List ℕ) : Type 0 where
  pub fits : length datagram ≤ in_force.limit
  pub expects : expected ≤ numbers
  pub near : Near expected p.packet_number p.number_length
  pub enough : size ≤ length room + tag_length

-- the answer is 0; number, lengths and bytes used are reported; plain header and payload stand at the output's start; the number
-- expected next is the larger of what was expected and one above the packet's own
pub record Reopened (v level : ℕ) (p : Plain) (size expected next r : ℕ) (report room then : List ℕ) : Type 0 where
  pub answer : r ≡ 0
  pub reported : report ≡ p.packet_number ∷ p.number_length ∷ length (plain_header (clear_of in_force v level p)) ∷ length p.payload ∷ size ∷ []
  pub moved : next ≡ max expected (p.packet_number + 1)
  pub written : then ≡ begun (plain_header (clear_of in_force v level p) ++ p.payload) room

-- whatever stands behind the packet
abbrev pub Reopens : Type 0
Reopens =
    (keys : List ℕ) (p : Plain) (size : ℕ) (sealed behind : List ℕ) → Sealed keys p size sealed
    → (expected next r : ℕ) (before report room then : List ℕ) → Comes p size (take size sealed ++ behind) expected room
    → DwOpen keys (take size sealed ++ behind) expected next before r report room then
    → Reopened (keys_in keys).version (keys_in keys).level p size expected next r report room then
