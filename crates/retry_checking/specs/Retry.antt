-- Retry packets, checked: RFC 9000 section 17.2.5 and RFC 9001 section 5.8, in the order of docs/SCOPE.md, "Order of refusals".
use Rattle.std.specs.Prelude.{ℕ, ◌-◌, List, true, leb, length, take, drop}
use Rattle.octets.specs.Outcome.{Outcome, given, unless, ◌>>=◌, ◌>>◌}
use Rattle.header_fields.specs.Fields.{Place, behind, longest_id, whole, tag_length}
use Rattle.header_forms.specs.Rules.{Rules}
use Rattle.header_forms.specs.Forms.{long_form, formed}
use Rattle.header_long.specs.LongHeader.{Judge, of_retry, Long, long}
use Rattle.octets.specs.Octets.{same}
use Rattle.retry_tag.specs.Tag.{retry_tag}

-- ---- checking: where the parts stand
pub record RetryFields : Type 0 where
  pub version : ℕ
  pub destination : Place
  pub source : Place
  pub token : Place

-- all between a place and the tag, which ends the datagram: the tag is whole, and something stands before it
unfoldable pub token_at : List ℕ → ℕ → Outcome Place
token_at d at = do
  whole d at tag_length
  let len = length d - at - tag_length
  unless 13 (leb 1 len)
  given (record { at = at; len = len })

-- who reads Retry packets, of every known version
abbrev pub retries : Judge ℕ
retries = of_retry (λ v. true)

-- what a Retry begins with, as every long header does
unfoldable pub retry_header : Rules → List ℕ → Outcome (Long ℕ)
retry_header rules d = do
  formed rules long_form d
  long retries d

unfoldable pub retry_checked : Rules → (original d : List ℕ) → Outcome RetryFields
retry_checked rules original d = do
  unless 5 (leb (length original) longest_id)
  l ← retry_header rules d
  token ← token_at d (behind l.source)
  unless 11 (same (drop (behind token) d) (retry_tag l.version original (take (behind token) d)))
  given (record { version = l.version; destination = l.destination; source = l.source; token = token })
