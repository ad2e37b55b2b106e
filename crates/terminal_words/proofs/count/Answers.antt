use Prim.Native.Nat.{ℕ, ◌+◌}
use mathlib.Core.Path.{refl, sym, ap, ◌∙◌}
use native.Mathlib.Omega.{arith}
use Rattle.terminal_words.specs.Words.{words_up_to}
use Rattle.terminal_words.proofs.Separators.{count-one, count_none}
use Rattle.terminal_words.proofs.count.Goals as goal
use Rattle.terminal_words.proofs.count.Goals.{then-starts, else-starts}

pub loop-at-init : goal.loop-at-init
unfolding words_up_to
loop-at-init c = (omega arith, refl)

pub loop-at-preserved : goal.loop-at-preserved
loop-at-preserved c =
    let l = c.loop-at in
    let s = c.starts.ensures in
    elim c.if-starts.branch [
      | then-starts w ↦ (omega arith, w.words-is ∙ ap (λ (n : ℕ). n + 1) l.invariant.1 ∙ sym (count-one _ _ l.at (sym s ∙ w.if-starts.true)))
      | else-starts w ↦ (omega arith, w.words-is ∙ l.invariant.1 ∙ sym (count_none _ _ l.at (sym s ∙ w.if-starts.false)))
    ]
