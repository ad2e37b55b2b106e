-- The fields of a long header, where each stands: RFC 9000 sections 16 and 17.2, in the order of docs/SCOPE.md, "Order of refusals".
use Rattle.std.specs.Prelude.{ℕ, ◌+◌, List, leb, length, get_or, drop}
use Rattle.octets.specs.Outcome.{Outcome, given, unless, ◌>>=◌, ◌>>◌}
use Rattle.integers.specs.Integer.{integer}

-- the longest connection ID
abbrev pub longest_id : ℕ
longest_id = 20

-- RFC 9001 section 5.3: the tag's length
abbrev pub tag_length : ℕ
tag_length = 16

-- Length counts a number and payload that reach the sample's end, so 20 bytes at the least
abbrev pub least_length : ℕ
least_length = 20

-- where something stands in the datagram
pub record Place : Type 0 where
  pub at : ℕ
  pub len : ℕ

abbrev pub behind : Place → ℕ
behind p = p.at + p.len

-- refusal 3, unless len bytes stand at the place
abbrev pub whole : List ℕ → (at len : ℕ) → Outcome (Unit {0})
whole d at len = unless 3 (leb (at + len) (length d))

-- a length byte and as many bytes: an ID, its length judged before its bytes
unfoldable pub id_at : List ℕ → ℕ → Outcome Place
id_at d at = do
  whole d at 1
  let len = get_or d at 0
  unless 5 (leb len longest_id)
  whole d (at + 1) len
  given (record { at = at + 1; len = len })

-- an integer from a place on: its value, and where it ends
unfoldable pub integer_at : List ℕ → ℕ → Outcome Place
integer_at d at = do
  i ← integer (drop at d)
  given (record { at = at + i.taken; len = i.value })

-- a length and as many bytes
unfoldable pub field_at : List ℕ → ℕ → Outcome Place
field_at d at = do
  field ← integer_at d at
  whole d field.at field.len
  given field

-- the rest of the packet, behind its Length
unfoldable pub rest_at : List ℕ → ℕ → Outcome Place
rest_at d at = do
  rest ← integer_at d at
  unless 7 (leb least_length rest.len)
  whole d rest.at rest.len
  given rest
