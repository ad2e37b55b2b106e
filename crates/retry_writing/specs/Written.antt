-- Retry packets, written: RFC 9000 section 17.2.5, in the order of docs/SCOPE.md, "Order of refusals".
use Rattle.std.specs.Prelude.{ℕ, ◌%◌, List, ◌∷◌, ◌++◌, leb, length}
use Rattle.octets.specs.Outcome.{Outcome, given, unless, ◌>>◌}
use Rattle.versions.specs.Versions.{known, version}
use Rattle.header_forms.specs.Rules.{Rules}
use Rattle.header_fields.specs.Fields.{longest_id}
use Rattle.header_writing.specs.Written.{long_first, long_fields}
use Rattle.retry_tag.specs.Tag.{tagged}

-- ---- RFC 9000 section 17.2.5: the packet up to its tag
-- the first byte's low four bits are unused: the writer takes them from a number, by its remainder by 16
unfoldable pub untagged : (v : ℕ) (destination source token : List ℕ) (low : ℕ) → List ℕ
untagged v destination source token low = long_first (version v).retry_type (low % 16) ∷ long_fields v destination source ++ token

-- ---- writing
unfoldable pub retry_written : Rules → (v : ℕ) (original destination source token : List ℕ) (low room : ℕ) → Outcome (List ℕ)
retry_written rules v original destination source token low room = do
  unless 4 (known v)
  unless 5 (leb (length original) longest_id)
  unless 5 (leb (length destination) longest_id)
  unless 5 (leb (length source) longest_id)
  unless 13 (leb 1 (length token))
  let packet = tagged v original (untagged v destination source token low)
  unless 1 (leb (length packet) rules.limit)
  unless 8 (leb (length packet) room)
  given packet
