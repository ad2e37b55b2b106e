use mathlib.Core.Path.{sym, ◌∙◌}
use native.Mathlib.Omega.{arith}
use Rattle.terminal.proofs.Blanks.{zero_turn, zero-ends}
use Rattle.terminal.proofs.lines.blanks_to_zeros.Goals as goal

pub loop-character-preserved : goal.loop-character-preserved
loop-character-preserved c =
    let l = c.loop-character in
    let w = c.without_blank in
    zero_turn l.text l.character-index w.result (omega arith) w.ensures ∙ l.invariant

pub returns : goal.returns
returns c =
    let l = c.loop-character in
    sym (zero-ends l.text l.character-index (omega arith)) ∙ l.invariant
