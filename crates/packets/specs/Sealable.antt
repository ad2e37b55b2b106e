-- What sealing asks of a plain packet, and how long its packet is.
use Rattle.std.specs.Prelude.{ℕ, ◌+◌, ◌≤◌, length}
use Rattle.header_forms.specs.Rules.{Rules, in_force}
use Rattle.header_fields.specs.Fields.{longest_id}
use Rattle.header_writing.specs.Written.{Plain, size_before_number, length_of}

-- its number's length and its IDs are right, and there is enough of it for a sample
pub record Sealable (p : Plain) : Type 0 where
  pub positive : 1 ≤ p.number_length
  pub short : p.number_length ≤ 4
  pub short-destination : length p.destination ≤ longest_id
  pub short-source : length p.source ≤ longest_id
  pub enough : 4 ≤ p.number_length + length p.payload

-- how long its packet is: all before the number, and what Length counts
abbrev pub size_of : Rules → Plain → ℕ
size_of rules p = size_before_number rules p.destination p.source p.token (length_of p) + length_of p

-- one whose packet is within the limit and within the room for it
pub record Writable (p : Plain) (room : ℕ) : Type 0 where
  pub sealable : Sealable p
  pub size : size_of in_force p ≤ in_force.limit
  pub enters : size_of in_force p ≤ room
