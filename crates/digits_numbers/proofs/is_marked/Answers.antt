-- The tests on the way say what is missing.
use Rattle.digits_numbers.proofs.is_marked.Goals as goal
use Rattle.digits_numbers.proofs.Reading.{too_short, by-letters}
use borrow.Author.Tests.{le-ltb}
use mathlib.Core.Path.{sym, ◌∙◌}

pub returns-then-text-gt2 : goal.returns-then-text-gt2
returns-then-text-gt2 c = c.starts_with.ensures.value ∙ by-letters _ c.if-text-gt2.true

pub returns-else-text-gt2 : goal.returns-else-text-gt2
returns-else-text-gt2 c = le-ltb 2 _ c.if-text-gt2.false ∙ sym (too_short _ c.if-text-gt2.false)
