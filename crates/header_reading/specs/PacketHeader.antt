-- The header of a packet with a number, read: RFC 9000 sections 17.2.2 to 17.2.4, in the order of docs/SCOPE.md, "Order of refusals".
use Rattle.std.specs.Prelude.{ℕ, List, true, cond}
use Rattle.octets.specs.Outcome.{Outcome, given, ◌>>=◌, ◌>>◌}
use Rattle.versions.specs.Levels.{has_token}
use Rattle.header_forms.specs.Rules.{Rules}
use Rattle.header_forms.specs.Forms.{long_form, formed}
use Rattle.header_fields.specs.Fields.{Place, behind, field_at, rest_at}
use Rattle.header_long.specs.LongHeader.{Judge, of_any_level, long}

-- ---- the token
-- where it stands, and where the fields go on
pub record Token : Type 0 where
  pub place : Place
  pub end : ℕ

-- a level without a token has no field for it: 0 is answered for its place and length
unfoldable pub token_at : (level : ℕ) → List ℕ → ℕ → Outcome Token
token_at level d at =
    cond (has_token level)
    (do
      field ← field_at d at
      given (record { place = field; end = behind field }))
    (given (record { place = record { at = 0; len = 0 }; end = at }))

-- ---- the header: its level, where its parts stand, its Length, and its number's place
pub record Header : Type 0 where
  pub version : ℕ
  pub level : ℕ
  pub destination : Place
  pub source : Place
  pub token : Place
  pub length' : ℕ
  pub number_at : ℕ

-- what every long header begins with, as far as the reader takes it for a level; then the token and the rest
unfoldable pub header : Judge ℕ → List ℕ → Outcome Header
header judge d = do
  l ← long judge d
  token ← token_at l.kind d (behind l.source)
  rest ← rest_at d token.end
  given (record {
    version = l.version;
    level = l.kind;
    destination = l.destination;
    source = l.source;
    token = token.place;
    length' = rest.len;
    number_at = rest.at;
  })

-- the header of a datagram, whichever known version and level it is of
unfoldable pub any_header : Rules → List ℕ → Outcome Header
any_header rules d = do
  formed rules long_form d
  header (of_any_level (λ v. true)) d
