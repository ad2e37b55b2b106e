-- A part over the limit puts the whole over it; else the size itself is judged.
use mathlib.Core.Path.{ap, ◌∙◌}
use native.Mathlib.Omega.{arith}
use Rattle.octets.specs.Outcome.{given}
use Rattle.seal_judging.proofs.Sizes.{over-limit, over-room, within, held_below}
use Rattle.seal_judging.proofs.judge_size.Goals as goal

pub returns-then-token-gt-LIMIT : goal.returns-then-token-gt-LIMIT
returns-then-token-gt-LIMIT c =
    over-limit _ _ (omega (arith, c.if-token-gt-LIMIT.true, c.held-token.ensures, held_below c.args.plain.token))

pub returns-then-plain-gt-LIMIT : goal.returns-then-plain-gt-LIMIT
returns-then-plain-gt-LIMIT c = over-limit _ _ (omega arith)

pub returns-then-size-gt-LIMIT : goal.returns-then-size-gt-LIMIT
returns-then-size-gt-LIMIT c = let counted = c.size_of-size.ensures in over-limit _ _ (omega arith)

pub returns-then-room-size : goal.returns-then-room-size
returns-then-room-size c = let counted = c.size_of-size.ensures in over-room _ _ (omega arith) (omega arith)

pub returns : goal.returns
returns c =
    let counted = c.size_of-size.ensures in
    ap given counted ∙ within _ _ (omega arith) (omega arith)
