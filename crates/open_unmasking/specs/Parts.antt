-- A packet's parts in its datagram.
use Rattle.std.specs.Prelude.{ℕ, ◌+◌, ◌≤◌, List, length}
use Rattle.octets.specs.Octets.{bytes}
use Rattle.header_forms.specs.Rules.{in_force}
use Rattle.header_fields.specs.Fields.{least_length}
use Rattle.protection.specs.Parts.{plain_in, cipher_in, tag_in}
use Rattle.open_unmasking.specs.declared.Packet.{Packet}

-- section 5.3: the associated data, the ciphertext and the tag
abbrev pub plain_of : List ℕ → Packet → List ℕ
plain_of d p = plain_in d p.place p.first (bytes p.count p.truncated.0)

abbrev pub cipher_of : List ℕ → Packet → List ℕ
cipher_of d p = cipher_in d p.place p.length p.count

abbrev pub tag_of : List ℕ → Packet → List ℕ
tag_of d p = tag_in d p.place p.length

-- a packet that lies whole in a datagram
pub record Within (d : List ℕ) (p : Packet) : Type 0 where
  pub fits : length d ≤ in_force.limit
  pub headed : 1 ≤ p.place
  pub few : p.count ≤ 4
  pub enough : least_length ≤ p.length
  pub all : p.place + p.length ≤ length d
