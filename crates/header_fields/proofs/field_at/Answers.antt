-- The integer in front of the field says how long it is.
use mathlib.Core.Path.{sym, ◌∙◌}
use native.Mathlib.Omega.{arith}
use Rattle.octets.proofs.Refusals.{passed-on}
use Rattle.header_fields.proofs.Fields.{integer-end, field-refused, field-short, field-whole}
use Rattle.header_fields.proofs.field_at.Goals as goal

pub returns-in_err-field : goal.returns-in_err-field
returns-in_err-field c = passed-on _ _ _ c.from_residual.ensures.1 ∙ sym (field-refused _ _ c.in_err-field.ensures)

pub overflow_sub-datagram : goal.overflow_sub-datagram
overflow_sub-datagram c = (integer-end _ _ c.requires c.in_ok-field.ensures).1

pub returns-then-datagram-field : goal.returns-then-datagram-field
returns-then-datagram-field c = sym (field-short _ _ c.in_ok-field.ensures (omega arith))

pub returns : goal.returns
returns c =
    let is = c.in_ok-field.ensures in
    let end = integer-end _ _ c.requires is in
    sym (field-whole _ _ is (omega arith))
