-- Making Initial keys, by what the tests show.
use Prim.Native.Nat.{ℕ, ◌≤◌, ◌<◌}
use mathlib.Core.Path.{◌≡◌}
use mathlib.Core.Bool.{true, false}
use mathlib.Core.List.{List}
use lib.ListN.{length}
use borrow.Author.Tests.{le-leb, lt-leb}
use Rattle.octets.specs.Outcome.{refused, given}
use Rattle.versions.specs.Levels.{initial}
use Rattle.versions.specs.Versions.{known}
use Rattle.header_fields.specs.Fields.{longest_id}
use Rattle.keys_expansion.specs.Expansion.{keys_from}
use Rattle.keys.specs.Sides.{Side}
use Rattle.keys.specs.InitialKeys.{side_secret, initial_keys}

module _ (v : ℕ) (destination : List ℕ) (side : Side) where
  pub unknown-version : known v ≡ false → initial_keys v destination side ≡ refused 4
  unfolding initial_keys
  unknown-version h = rw h

  module _ (ours : known v ≡ true) where
    pub long-id : longest_id < length destination → initial_keys v destination side ≡ refused 5
    unfolding initial_keys
    long-id h = rw (ours, lt-leb (length destination) longest_id h)

    pub keys-made : length destination ≤ longest_id → initial_keys v destination side ≡ given (keys_from v initial (side_secret v destination side))
    unfolding initial_keys
    keys-made h = rw (ours, le-leb (length destination) longest_id h)
