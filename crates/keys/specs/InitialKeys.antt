-- RFC 9001 section 5.2: the keys of Initial packets.
use Rattle.std.specs.Prelude.{ℕ, List, leb, length}
use Rattle.octets.specs.Outcome.{Outcome, given, unless, ◌>>◌}
use Rattle.octets.specs.Text.{ascii}
use Rattle.hkdf.specs.Hkdf.{extract, expand_label}
use Rattle.versions.specs.Levels.{initial}
use Rattle.versions.specs.Versions.{known, version}
use Rattle.header_fields.specs.Fields.{longest_id}
use Rattle.protection.specs.Protection.{Keys}
use Rattle.keys_expansion.specs.Expansion.{keys_from}
use Rattle.keys.specs.Sides.{Side, client, server}

-- section 5.2: the label of a side's secret
unfoldable pub side_label : Side → List ℕ
side_label client = ascii "client in"
side_label server = ascii "server in"

-- the initial secret comes of the version's salt and the connection ID, and each side's secret of that one
unfoldable pub side_secret : (v : ℕ) (destination : List ℕ) → Side → List ℕ
side_secret v destination side = expand_label (extract (version v).salt destination) (side_label side) 32

unfoldable pub initial_keys : (v : ℕ) (destination : List ℕ) → Side → Outcome Keys
initial_keys v destination side = do
  unless 4 (known v)
  unless 5 (leb (length destination) longest_id)
  given (keys_from v initial (side_secret v destination side))
