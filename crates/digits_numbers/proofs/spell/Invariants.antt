-- What is left to read from the number so far gives the number of all digits.
use Prim.Native.Nat.{◌^◌, ◌<◌}
use mathlib.Core.Path.{◌≡◌}
use lib.ListN.{drop}
use Rattle.digits_numbers.specs.Numbers.{read_on, spelled}
use Rattle.digits_numbers.proofs.spell.Given as goal

abbrev pub invariant-loop-character : goal.invariant-loop-character
invariant-loop-character l = (l.number < 2 ^ 64) × (read_on l.base l.number (drop l.character-index l.text) ≡ spelled l.base l.text)
