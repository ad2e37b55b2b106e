-- After i turns the place is where the word of index i starts.
use Prim.Native.Nat.{◌≤◌}
use mathlib.Core.Path.{◌≡◌}
use lib.ListN.{length}
use Rattle.terminal_words.specs.Words.{word_at}
use Rattle.terminal_words.proofs.word_start.Given as goal

abbrev pub invariant-loop-i : goal.invariant-loop-i
invariant-loop-i l = (l.at ≤ length l.text) × (l.at ≡ word_at l.separator l.text l._i)
