-- A mark says the base, and that something stands behind it.
use mathlib.Core.Path.{sym, ◌∙◌}
use native.Mathlib.Omega.{arith}
use Rattle.digits_numbers.proofs.Reading.{marked-long, in-hex, in-decimal}
use Rattle.digits_numbers.proofs.read_number.Goals as goal

pub slice_bounds-number_in-count : goal.slice_bounds-number_in-count
slice_bounds-number_in-count c = omega (arith, marked-long _ (sym c.is_marked.ensures ∙ c.if-is_marked.true))

pub slice_bounds-number_in-start : goal.slice_bounds-number_in-start
slice_bounds-number_in-start c = omega (arith, marked-long _ (sym c.is_marked.ensures ∙ c.if-is_marked.true))

pub returns-then-is_marked : goal.returns-then-is_marked
returns-then-is_marked c =
    c.number_in.ensures ∙ sym (in-hex _ (sym c.is_marked.ensures ∙ c.if-is_marked.true))

pub returns : goal.returns
returns c = c.number_in-2.ensures ∙ sym (in-decimal _ (sym c.is_marked.ensures ∙ c.if-is_marked.false))
