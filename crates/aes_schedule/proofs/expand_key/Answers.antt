use mathlib.Core.Path.{ap, ◌∙◌}
use borrow.Author.Rules.{rules}
use native.Mathlib.Omega.{arith}
use lib.ListN.{take}
use Rattle.aes_schedule.specs.Expansion.{grown}
use Rattle.aes_schedule.proofs.Growth.{schedule-start, schedule-turn, schedule-end}
use Rattle.aes_schedule.proofs.expand_key.Goals as goal

pub loop-i-init : goal.loop-i-init
loop-i-init c = (search rules, ap (λ (v : _). grown 40 4 (take 16 v)) c.copy.ensures ∙ schedule-start _ c.args.key.now (search rules))

pub loop-i-preserved : goal.loop-i-preserved
loop-i-preserved c =
    let l = c.loop-i in
    (search rules, schedule-turn l.w _ _ l.i l.auto.i (omega arith) l.invariant.0 c.next_word-next.ensures c.copy-in-loop-i.ensures ∙ l.invariant.1)

pub returns : goal.returns
returns c =
    let l = c.loop-i in
    schedule-end l.w l.i (omega arith) l.invariant.0 ∙ l.invariant.1
