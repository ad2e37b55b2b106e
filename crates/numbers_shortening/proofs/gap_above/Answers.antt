-- Each arm is the gap's own clause.
use mathlib.Core.Path.{sym, ◌∙◌}
use native.Mathlib.Omega.{arith}
use Rattle.numbers_shortening.proofs.Shortening.{gap-range, gap-none, gap-behind, gap-ahead}
use Rattle.numbers_shortening.proofs.gap_above.Goals as goal

pub returns-then-number-ge-NUMBERS : goal.returns-then-number-ge-NUMBERS
returns-then-number-ge-NUMBERS c = sym (gap-range _ _ (omega arith))

pub returns-then-number-greatest : goal.returns-then-number-greatest
returns-then-number-greatest c =
    let is = c.in-Some.is in
    rw is (sym (gap-behind _ (omega arith) _ (omega arith)))

pub returns-in-None : goal.returns-in-None
returns-in-None c =
    let is = c.in-None.is in
    rw is (c.covered.ensures ∙ sym (gap-none _ (omega arith)))

pub returns-else-number-greatest : goal.returns-else-number-greatest
returns-else-number-greatest c =
    let is = c.in-Some.is in
    rw is (c.covered-in-Some.ensures ∙ sym (gap-ahead _ (omega arith) _ (omega arith)))
