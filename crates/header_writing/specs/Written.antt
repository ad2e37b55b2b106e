-- The long header, written: RFC 9000 sections 17.2 to 17.2.4, as docs/SCOPE.md, "The packet", has sealing write it.
use Rattle.std.specs.Prelude.{ℕ, ◌+◌, ◌-◌, ◌*◌, ◌≤◌, ◌<◌, ◌^◌, Bool, List, [], ◌∷◌, ◌++◌, length}
use Rattle.octets.specs.Octets.{bytes}
use Rattle.integers_writing.specs.Written.{smallest}
use Rattle.versions.specs.Levels.{has_token, has_no_token}
use Rattle.versions.specs.Versions.{version, type_for}
use Rattle.header_forms.specs.Rules.{Rules, in_force}
use Rattle.header_fields.specs.Fields.{tag_length}

-- ---- section 17.2: what every long header begins with
-- form and fixed bit, the type, and four low bits
abbrev pub long_first : (type low : ℕ) → ℕ
long_first type low = 0xc0 + type * 16 + low

abbrev pub with_length : List ℕ → List ℕ
with_length id = length id ∷ id

unfoldable pub long_fields : (v : ℕ) (destination source : List ℕ) → List ℕ
long_fields v destination source = bytes 4 v ++ with_length destination ++ with_length source

-- ---- sections 17.2.2 to 17.2.4: a packet with a number, before it is protected
-- an Initial packet has a field for its token, and 0-RTT and Handshake packets have none
pub data TokenField : Type 0 where
  holding : (token : List ℕ) → TokenField
  absent : TokenField

-- the keys of which levels write it
abbrev pub writes : TokenField → (level : ℕ) → Bool
writes (holding token) level = has_token level
writes absent level = has_no_token level

-- a token stands behind its length in the smallest form
abbrev pub token_bytes : TokenField → List ℕ
token_bytes (holding token) = smallest (length token) ++ token
token_bytes absent = []

-- the fields between the first byte and the packet number; Length as the rules write it
unfoldable pub packet_fields : Rules → (v : ℕ) (destination source : List ℕ) → TokenField → (counted : ℕ) → List ℕ
packet_fields rules v destination source token counted = long_fields v destination source ++ token_bytes token ++ rules.length_form counted

-- how many bytes that is with the first byte: the version, and a length before each ID, are 1 + 4 + 1 + 1 bytes
abbrev pub size_before_number : Rules → (destination source : List ℕ) → TokenField → (counted : ℕ) → ℕ
size_before_number rules destination source token counted =
    7 + length destination + length source + length (token_bytes token) + length (rules.length_form counted)

-- each of them can be written, and a buffer has room for all
pub record FieldsFit (destination source : List ℕ) (token : TokenField) (counted : ℕ) (buffer : List ℕ) : Type 0 where
  pub short-destination : length destination ≤ 255
  pub short-source : length source ≤ 255
  pub short-token : length (token_bytes token) < 2 ^ 30
  pub short-rest : counted ≤ in_force.limit
  pub room : size_before_number in_force destination source token counted ≤ length buffer

pub record Plain : Type 0 where
  pub destination : List ℕ
  pub source : List ℕ
  pub token : TokenField
  pub payload : List ℕ
  pub packet_number : ℕ
  pub number_length : ℕ

-- the type is that of the keys' level, the reserved bits are zero, and the last two are the number's length less one
unfoldable pub first_byte : (v level : ℕ) → Plain → ℕ
first_byte v level p = long_first (type_for (version v) level) (p.number_length - 1)

-- Length counts number, payload and tag
abbrev pub length_of : Plain → ℕ
length_of p = p.number_length + length p.payload + tag_length

abbrev pub fields : Rules → (v : ℕ) → Plain → List ℕ
fields rules v p = packet_fields rules v p.destination p.source p.token (length_of p)
