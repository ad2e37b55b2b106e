-- Which keys are installed, on either side of each boundary: by level, sender and version.
use Rattle.std.specs.Prelude.{ℕ, ◌≡◌, List}
use Rattle.octets.specs.Outcome.{refused, given}
use Rattle.versions.specs.Levels.{initial, zero_rtt, handshake}
use Rattle.keys_expansion.specs.Expansion.{keys_from}
use Rattle.keys.specs.Sides.{client, server}
use Rattle.keys.specs.InstalledKeys.{installed}

pub record Table (secret : List ℕ) : Type 0 where
  -- Initial keys are installed for nobody
  pub initial-client : installed 1 initial client secret ≡ refused 6
  pub initial-server : installed 1 initial server secret ≡ refused 6
  -- 0-RTT packets are the client's alone
  pub early-client : installed 1 zero_rtt client secret ≡ given (keys_from 1 zero_rtt secret)
  pub early-server : installed 1 zero_rtt server secret ≡ refused 6
  pub early-client-draft : installed 0x709a50c4 zero_rtt client secret ≡ given (keys_from 0x709a50c4 zero_rtt secret)
  pub early-server-draft : installed 0x709a50c4 zero_rtt server secret ≡ refused 6
  -- both sides send Handshake packets
  pub handshake-client : installed 1 handshake client secret ≡ given (keys_from 1 handshake secret)
  pub handshake-server : installed 1 handshake server secret ≡ given (keys_from 1 handshake secret)
  pub handshake-client-draft : installed 0x709a50c4 handshake client secret ≡ given (keys_from 0x709a50c4 handshake secret)
  pub handshake-server-draft : installed 0x709a50c4 handshake server secret ≡ given (keys_from 0x709a50c4 handshake secret)
  -- a number that names no level, and those whose last byte alone does
  pub no-level-client : installed 1 3 client secret ≡ refused 6
  pub no-level-server : installed 1 3 server secret ≡ refused 6
  pub last-byte-1 : installed 1 257 client secret ≡ refused 6
  pub last-byte-2 : installed 1 258 server secret ≡ refused 6
  -- the version is judged first
  pub version-first : installed 2 initial server secret ≡ refused 4
