-- The tests on the way say what stands at the place and before it.
use mathlib.Core.Path.{sym, ◌∙◌}
use borrow.Author.Tests.{eq-eqb}
use Rattle.terminal_words.proofs.Separators.{starts-ends, starts-not, starts_first, starts-behind}
use Rattle.terminal_words.proofs.starts.Goals as goal

pub returns-then-text-at : goal.returns-then-text-at
returns-then-text-at c = sym (starts-ends _ _ _ c.if-text-at.true)

pub returns-then-text-at-2 : goal.returns-then-text-at-2
returns-then-text-at-2 c = sym (starts-not _ _ _ c.if-text-at.false c.if-text-at-2.true)

pub returns-then-at-eq0 : goal.returns-then-at-eq0
returns-then-at-eq0 c = eq-eqb _ _ c.if-at-eq0.true ∙ sym (starts_first _ _ _ c.if-text-at.false c.if-text-at-2.false c.if-at-eq0.true)

pub returns-else-at-eq0 : goal.returns-else-at-eq0
returns-else-at-eq0 c =
    sym (starts-behind _ _ _ c.if-text-at.false c.if-text-at-2.false c.if-at-eq0.false)
