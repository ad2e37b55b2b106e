-- The integer ends within the datagram, since it takes no more than there is.
use mathlib.Core.Path.{sym, ap, ◌∙◌}
use native.Mathlib.Omega.{arith}
use lib.ListN.{drop, length-drop}
use Rattle.integers.specs.Integer.{integer}
use Rattle.octets.proofs.Parts.{to_end}
use Rattle.octets.proofs.Refusals.{passed-on}
use Rattle.header_fields.proofs.Fields.{integer-taken, integer-refused, integer-found}
use Rattle.header_fields.proofs.integer_at.Goals as goal

pub returns-in_err-integer : goal.returns-in_err-integer
returns-in_err-integer c =
    let a = c.args in
    let is = c.in_err-integer.ensures.answer ∙ ap integer (to_end a.datagram.now a.at) in
    passed-on _ _ _ c.from_residual.ensures.1 ∙ sym (integer-refused _ _ is)

pub overflow_add-result : goal.overflow_add-result
overflow_add-result c =
    let a = c.args in
    let is = c.in_ok-integer.ensures.answer ∙ ap integer (to_end a.datagram.now a.at) in
    omega (arith, integer-taken (drop a.at a.datagram.now) is, length-drop a.at a.datagram.now)

pub returns : goal.returns
returns c =
    let a = c.args in
    let is = c.in_ok-integer.ensures.answer ∙ ap integer (to_end a.datagram.now a.at) in
    sym (integer-found _ _ is)
