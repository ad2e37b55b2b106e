-- An Initial's token is a field, and no other level has one.
use mathlib.Core.Path.{sym, ◌∙◌}
use borrow.Author.Tests.{eq-eqb, ne_eqb}
use native.Mathlib.Omega.{arith}
use Rattle.octets.proofs.Refusals.{passed-on}
use Rattle.header_fields.proofs.Fields.{field-within}
use Rattle.header_reading.proofs.PacketHeaders.{token-none, token-refused, token-found}
use Rattle.header_reading.proofs.token_at.Goals as goal

pub returns-then-level-ne-INITIAL : goal.returns-then-level-ne-INITIAL
returns-then-level-ne-INITIAL c = sym (token-none _ _ _ (ne_eqb _ _ c.if-level-ne-INITIAL.true))

pub returns-in_err-place : goal.returns-in_err-place
returns-in_err-place c =
    passed-on _ _ _ c.from_residual.ensures.1 ∙ sym (token-refused _ _ _ (eq-eqb _ _ c.if-level-ne-INITIAL.false) c.in_err-place.ensures)

pub overflow_add-result : goal.overflow_add-result
overflow_add-result c =
    let within = field-within _ _ c.requires c.in_ok-place.ensures in
    omega arith

pub returns : goal.returns
returns c = sym (token-found _ _ _ (eq-eqb _ _ c.if-level-ne-INITIAL.false) c.in_ok-place.ensures)
