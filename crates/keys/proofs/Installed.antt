-- Installing keys, by what the tests show.
use Prim.Native.Nat.{ℕ, ◌≤◌}
use mathlib.Core.Path.{◌≡◌, refl}
use mathlib.Core.Bool.{Bool, true, false, ◌||◌, false≢true}
use mathlib.Core.List.{List}
use lib.Dec.{eqb, lit≤}
use borrow.Author.Tests.{ne_eqb, eqb-true}
use Rattle.octets.specs.Outcome.{refused, given}
use Rattle.versions.specs.Levels.{zero_rtt, handshake}
use Rattle.versions.specs.Versions.{known}
use Rattle.keys_expansion.specs.Expansion.{keys_from}
use Rattle.keys.specs.Sides.{Side, client, server}
use Rattle.keys.specs.InstalledKeys.{installs, installed}

-- ---- the levels that are installed for a sender
module _ (level : ℕ) where
  pub installs-handshake : (sender : Side) → level ≡ handshake → installs level sender ≡ true
  unfolding installs
  installs-handshake client h = rw h
  installs-handshake server h = rw h

  module _ (other : level ≡ handshake → ⊥) where
    pub installs-client : installs level client ≡ eqb level zero_rtt
    unfolding installs
    installs-client = rw (ne_eqb level handshake other) (by (eqb level zero_rtt))
      where
        by : (a : Bool) → a || false ≡ a
        by true = refl
        by false = refl

    pub installs-server : installs level server ≡ false
    unfolding installs
    installs-server = ne_eqb level handshake other

  -- a level that is installed fits a byte
  pub installs-fits : (sender : Side) → installs level sender ≡ true → level ≤ 255
  unfolding installs
  installs-fits client h = by (eqb level zero_rtt) (eqb level handshake) refl refl h
    where
      by : (a b : Bool) → eqb level zero_rtt ≡ a → eqb level handshake ≡ b → a || b ≡ true → level ≤ 255
      by true b p q h = rw (eqb-true level zero_rtt p) (lit≤ tt)
      by false true p q h = rw (eqb-true level handshake q) (lit≤ tt)
      by false false p q h = absurd (false≢true h)
  installs-fits server h = rw (eqb-true level handshake h) (lit≤ tt)

-- ---- refusals in their order, then the keys
module _ (v level : ℕ) (sender : Side) (secret : List ℕ) where
  pub install-unknown : known v ≡ false → installed v level sender secret ≡ refused 4
  unfolding installed
  install-unknown h = rw h

  module _ (ours : known v ≡ true) where
    pub install-level : installs level sender ≡ false → installed v level sender secret ≡ refused 6
    unfolding installed
    install-level h = rw (ours, h)

    pub install-given : installs level sender ≡ true → installed v level sender secret ≡ given (keys_from v level secret)
    unfolding installed
    install-given h = rw (ours, h)
