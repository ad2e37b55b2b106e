use Rattle.std.proofs.Common.{sym, ◌∙◌, arith}
use Rattle.sha256.proofs.Blocks.{absorbed-none, absorbed-turn}
use Rattle.sha256.proofs.absorb.Goals as goal

pub loop-block-preserved : goal.loop-block-preserved
loop-block-preserved c =
    let l = c.loop-block in
    let steps = c.in-Some.ensures.steps in
    let size = l.invariant.0 in (
      steps.0 ∙ size,
      absorbed-turn l.value l.block-iterator.rest.now _ _ _ steps.1.0 (steps.1.1 ∙ size) c.compress-next.ensures ∙ l.invariant.1,
    )

pub returns : goal.returns
returns c =
    let l = c.loop-block in
    sym (absorbed-none l.value l.block-iterator.rest.now (omega (arith, c.in-None.ensures.steps.1.0, l.invariant.0))) ∙ l.invariant.1
