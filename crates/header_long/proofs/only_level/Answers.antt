-- The type's level, compared.
use mathlib.Core.Path.{sym, ◌∙◌}
use Rattle.octets.proofs.Refusals.{passed-on}
use Rattle.header_long.proofs.LongHeaders.{level-refused, level-other, level-wanted}
use Rattle.header_long.proofs.only_level.Goals as goal

pub returns-in_err-level : goal.returns-in_err-level
returns-in_err-level c = passed-on _ _ _ c.from_residual.ensures.1 ∙ sym (level-refused _ _ _ c.in_err-level.ensures)

pub returns-then-level-wanted : goal.returns-then-level-wanted
returns-then-level-wanted c = sym (level-other _ _ _ c.in_ok-level.ensures c.if-level-wanted.true)

pub returns : goal.returns
returns c = sym (level-wanted _ _ _ c.in_ok-level.ensures c.if-level-wanted.false)
