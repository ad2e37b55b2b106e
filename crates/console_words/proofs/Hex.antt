-- What the tests on the way say of a word that should be hex, and is not the mark for nothing.
use Prim.Native.Nat.{ℕ, ◌%◌, ◌<◌, ◌≤◌}
use mathlib.Core.Bool.{true, false}
use mathlib.Core.List.{List}
use mathlib.Core.Path.{◌≡◌}
use borrow.Author.Tests.{le-leb, lt-leb, eq-eqb, ne_eqb}
use lib.ListN.{length}
use Rattle.octets.specs.Octets.{same}
use Rattle.digits_reading.specs.Digits.{run}
use Rattle.console.specs.Fields.{dash}
use Rattle.console_words.specs.Words.{is_hex}

module _ (t : List ℕ) (h : same t dash ≡ false) where
  pub hex-not : run 16 t < length t → is_hex t ≡ false
  unfolding is_hex
  hex-not l = simp (h, lt-leb (length t) (run 16 t) l)

  pub hex-odd : length t ≤ run 16 t → (length t % 2 ≡ 0 → ⊥) → is_hex t ≡ false
  unfolding is_hex
  hex-odd l o = simp (h, le-leb (length t) (run 16 t) l, ne_eqb (length t % 2) 0 o)

  pub hex-even : length t ≤ run 16 t → length t % 2 ≡ 0 → is_hex t ≡ true
  unfolding is_hex
  hex-even l o = simp (h, le-leb (length t) (run 16 t) l, eq-eqb (length t % 2) 0 o)
