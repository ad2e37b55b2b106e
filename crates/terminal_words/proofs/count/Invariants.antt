-- The words that start among the characters passed are counted, and there are no more of them than characters.
use Prim.Native.Nat.{◌≤◌}
use mathlib.Core.Path.{◌≡◌}
use Rattle.terminal_words.specs.Words.{words_up_to}
use Rattle.terminal_words.proofs.count.Given as goal

abbrev pub invariant-loop-at : goal.invariant-loop-at
invariant-loop-at l = (l.words ≤ l.at) × (l.words ≡ words_up_to l.separator l.text l.at)
