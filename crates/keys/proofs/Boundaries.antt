-- Each line of the table, by computing it.
use Prim.Native.Nat.{ℕ}
use mathlib.Core.Path.{refl}
use mathlib.Core.List.{List}
use Rattle.versions.specs.Versions.{version1, draft2, known}
use Rattle.keys.specs.InstalledKeys.{installs, installed}
use Rattle.keys.specs.Boundaries.{Table}

pub boundaries : (secret : List ℕ) → Table secret
unfolding known version1 draft2 installs installed
boundaries secret = record {
  initial-client = refl;
  initial-server = refl;
  early-client = refl;
  early-server = refl;
  early-client-draft = refl;
  early-server-draft = refl;
  handshake-client = refl;
  handshake-server = refl;
  handshake-client-draft = refl;
  handshake-server-draft = refl;
  no-level-client = refl;
  no-level-server = refl;
  last-byte-1 = refl;
  last-byte-2 = refl;
  version-first = refl;
}
