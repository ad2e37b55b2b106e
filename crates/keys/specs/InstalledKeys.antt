-- RFC 9001 section 5.1: the keys of a level, from the secret that TLS hands over for one sender.
use Rattle.std.specs.Prelude.{ℕ, Bool, ◌||◌, List, eqb}
use Rattle.octets.specs.Outcome.{Outcome, given, unless, ◌>>◌}
use Rattle.versions.specs.Levels.{zero_rtt, handshake}
use Rattle.versions.specs.Versions.{known}
use Rattle.protection.specs.Protection.{Keys}
use Rattle.keys_expansion.specs.Expansion.{keys_from}
use Rattle.keys.specs.Sides.{Side, client, server}

-- Initial keys come of a connection ID and are never installed; a server sends no 0-RTT packets (RFC 9000 section 17.2.3)
unfoldable pub installs : (level : ℕ) (sender : Side) → Bool
installs level client = eqb level zero_rtt || eqb level handshake
installs level server = eqb level handshake

unfoldable pub installed : (v level : ℕ) (sender : Side) (secret : List ℕ) → Outcome Keys
installed v level sender secret = do
  unless 4 (known v)
  unless 6 (installs level sender)
  given (keys_from v level secret)
