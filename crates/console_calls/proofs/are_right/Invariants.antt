-- The words passed are what their names ask.
use Prim.Native.Nat.{◌+◌}
use mathlib.Core.Path.{◌≡◌}
use Rattle.terminal_words.specs.Words.{words_from}
use Rattle.console_calls.specs.Calls.{are_right}
use Rattle.console_calls.proofs.are_right.Given as goal

abbrev pub invariant-loop-i : goal.invariant-loop-i
invariant-loop-i l = are_right (words_from 0 l.line l.i) (words_from 32 l.usage (l.i + 1)) ≡ are_right (words_from 0 l.line 1) (words_from 32 l.usage 2)
