use native.Mathlib.Omega.{arith}
use Rattle.terminal_words.proofs.Separators.{word_first, word_next}
use Rattle.terminal_words.proofs.word_start.Goals as goal

pub loop-i-init : goal.loop-i-init
loop-i-init c = (omega arith, word_first _ _ _ c.past_separators-at.ensures.2)

pub loop-i-preserved : goal.loop-i-preserved
loop-i-preserved c =
    let l = c.loop-i in
    (omega arith, word_next _ _ l._i _ _ _ l.invariant.1 c.next_separator.ensures.2 c.past_separators-at-in-loop-i.ensures.2)
