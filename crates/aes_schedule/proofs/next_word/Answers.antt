-- The sum of the words that the contracts give.
use Prim.Native.Nat.{◌%◌}
use mathlib.Core.Path.{ap, ap₂, ◌∙◌}
use lib.Dec.{eqb}
use Rattle.aes_state.specs.State.{sum}
use Rattle.aes_schedule.specs.Expansion.{turned, next_word}
use Rattle.aes_schedule.proofs.next_word.Goals as goal

pub returns : goal.returns
unfolding next_word
returns c =
    let i = c.args.i in
    c.sum.ensures ∙ ap₂ sum c.word.ensures (c.turned.ensures ∙ ap (turned (eqb (i % 4) 0) i) c.word-2.ensures)
