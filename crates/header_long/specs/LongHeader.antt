-- What every long header begins with, read: RFC 9000 section 17.2, in the order of docs/SCOPE.md, "Order of refusals".
use Rattle.std.specs.Prelude.{ℕ, ◌/◌, ◌%◌, List, Bool, ◌&&◌, eqb, get_or}
use Rattle.octets.specs.Outcome.{Outcome, given, unless, ◌>>=◌, ◌>>◌}
use Rattle.octets.specs.Octets.{number, part}
use Rattle.versions.specs.Versions.{Version, known, version, level_of}
use Rattle.header_fields.specs.Fields.{Place, behind, whole, id_at}

-- ---- who reads
-- which versions it takes, and what it makes of a type of theirs, or refusal 6
pub record Judge (A : Type 0) : Type 0 where
  pub takes : ℕ → Bool
  pub kind : Version → (type : ℕ) → Outcome A

-- any level: every type but Retry
abbrev pub of_any_level : (takes : ℕ → Bool) → Judge ℕ
of_any_level takes = record { takes = takes; kind = level_of }

-- one level alone; a number that names no level is no packet's
unfoldable pub only_level : (wanted : ℕ) → Version → (type : ℕ) → Outcome ℕ
only_level wanted row type = do
  level ← level_of row type
  unless 6 (eqb level wanted)
  given level

abbrev pub of_level : (takes : ℕ → Bool) → (wanted : ℕ) → Judge ℕ
of_level takes wanted = record { takes = takes; kind = only_level wanted }

-- Retry alone, by its type
unfoldable pub only_retry : Version → (type : ℕ) → Outcome ℕ
only_retry row type = do
  unless 6 (eqb type row.retry_type)
  given type

abbrev pub of_retry : (takes : ℕ → Bool) → Judge ℕ
of_retry takes = record { takes = takes; kind = only_retry }

-- ---- section 17.2: what every long header begins with, where it stands
pub record Judged (A : Type 0) : Type 0 where
  pub version : ℕ
  pub kind : A

pub record Long (A : Type 0) : Type 0 where
  pub version : ℕ
  pub kind : A
  pub destination : Place
  pub source : Place

-- the version behind the first byte
unfoldable pub version_of : List ℕ → Outcome ℕ
version_of d = do
  whole d 1 4
  given (number (part d 1 4))

-- the version, where it is known and taken, and what the reader makes of that version's type
unfoldable pub judged : {A : Type 0} → Judge A → List ℕ → Outcome (Judged A)
judged judge d = do
  v ← version_of d
  unless 4 (known v && judge.takes v)
  kind ← judge.kind (version v) (get_or d 0 0 / 16 % 4)
  given (record { version = v; kind = kind })

-- and the two IDs
unfoldable pub long : {A : Type 0} → Judge A → List ℕ → Outcome (Long A)
long judge d = do
  j ← judged judge d
  destination ← id_at d 5
  source ← id_at d (behind destination)
  given (record { version = j.version; kind = j.kind; destination = destination; source = source })
