-- The source ID stands behind the destination ID, which stands within the datagram.
use mathlib.Core.Path.{sym, ◌∙◌}
use native.Mathlib.Omega.{arith}
use Rattle.octets.proofs.Refusals.{passed-on}
use Rattle.header_fields.proofs.Fields.{id-within}
use Rattle.header_long.proofs.LongHeaders.{long-no-version, long-no-destination, long-no-source, long-found}
use Rattle.header_long.proofs.read_long.Goals as goal

pub returns-in_err-judged : goal.returns-in_err-judged
returns-in_err-judged c = passed-on _ _ _ c.from_residual.ensures.1 ∙ sym (long-no-version _ _ c.in_err-judged.ensures)

pub returns-in_err-destination : goal.returns-in_err-destination
returns-in_err-destination c =
    let right = c.in_ok-judged.ensures in
    passed-on _ _ _ c.from_residual-in_err-destination.ensures.1 ∙ sym (long-no-destination _ _ right c.in_err-destination.ensures)

pub overflow_add-destination : goal.overflow_add-destination
overflow_add-destination c =
    let within = id-within _ _ c.in_ok-destination.ensures in
    omega arith

pub returns-in_err-source : goal.returns-in_err-source
returns-in_err-source c =
    let right = c.in_ok-judged.ensures in
    let destination = c.in_ok-destination.ensures in
    passed-on _ _ _ c.from_residual-in_err-source.ensures.1 ∙ sym (long-no-source _ _ right destination c.in_err-source.ensures)

pub returns : goal.returns
returns c =
    let right = c.in_ok-judged.ensures in
    let destination = c.in_ok-destination.ensures in
    sym (long-found _ _ right destination c.in_ok-source.ensures)
