-- What protecting a packet asks and promises.
use Rattle.std.specs.Prelude.{ℕ, ◌+◌, ◌≤◌, ◌≡◌, List, length}
use Rattle.octets.specs.Octets.{begun}
use Rattle.header_forms.specs.Rules.{in_force}
use Rattle.header_forms.specs.Forms.{Form}
use Rattle.header_fields.specs.Fields.{tag_length}
use Rattle.protection.specs.Protection.{Keys}
use Rattle.protection.specs.Clear.{Clear, number_at, plain_header, protected}
use Rattle.protection.specs.AesGcm.{aes_gcm}

-- the buffer has room for number, payload and tag from the place on, the packet is within the limit, and there is enough of it for a sample
pub record Room (count : ℕ) (payload : List ℕ) (place : ℕ) (buffer : List ℕ) : Type 0 where
  pub headed : 1 ≤ place
  pub short : count ≤ 4
  pub enough : 4 ≤ count + length payload
  pub size : place + (count + length payload + tag_length) ≤ in_force.limit
  pub enters : place + (count + length payload + tag_length) ≤ length buffer

-- a packet in the clear, by its header's parts
abbrev pub clear : (number count : ℕ) (payload : List ℕ) (first : ℕ) (fields : List ℕ) → Clear
clear number count payload first fields =
    record { first = first; fields = fields; packet_number = number; number_length = count; payload = payload }

-- whatever header stands in the clear at the buffer's start, its number at the place: then the packet stands there protected
abbrev pub Protects : Form → Keys → (number count : ℕ) (payload : List ℕ) (place : ℕ) (before after : List ℕ) → Type 0
Protects form k number count payload place before after =
    (first : ℕ) (fields out : List ℕ) → place ≡ number_at (clear number count payload first fields)
    → before ≡ begun (plain_header (clear number count payload first fields)) out
    → after ≡ begun (protected aes_gcm form k (clear number count payload first fields)) out
