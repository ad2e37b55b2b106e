-- The front is without blanks, and the rest will be.
use mathlib.Core.List.{◌++◌}
use mathlib.Core.Path.{◌≡◌}
use lib.ListN.{take, drop}
use Rattle.terminal.specs.Blanks.{zeroed}
use Rattle.terminal.proofs.lines.blanks_to_zeros.Given as goal

abbrev pub invariant-loop-character : goal.invariant-loop-character
invariant-loop-character l = take l.character-index l.text ++ zeroed (drop l.character-index l.text) ≡ zeroed l.initial.text
