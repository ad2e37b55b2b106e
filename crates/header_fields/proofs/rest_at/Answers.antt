-- The integer in front of the rest is judged before its end.
use mathlib.Core.Path.{sym, ◌∙◌}
use native.Mathlib.Omega.{arith}
use Rattle.octets.proofs.Refusals.{passed-on}
use Rattle.header_fields.proofs.Fields.{integer-end, rest-refused, rest-small, rest-short, rest-whole}
use Rattle.header_fields.proofs.rest_at.Goals as goal

pub returns-in_err-rest : goal.returns-in_err-rest
returns-in_err-rest c = passed-on _ _ _ c.from_residual.ensures.1 ∙ sym (rest-refused _ _ c.in_err-rest.ensures)

pub returns-then-rest-lt-LEAST_LENGTH : goal.returns-then-rest-lt-LEAST_LENGTH
returns-then-rest-lt-LEAST_LENGTH c = sym (rest-small _ _ c.in_ok-rest.ensures (omega arith))

pub overflow_sub-datagram : goal.overflow_sub-datagram
overflow_sub-datagram c = (integer-end _ _ c.requires c.in_ok-rest.ensures).1

pub returns-then-datagram-rest : goal.returns-then-datagram-rest
returns-then-datagram-rest c = sym (rest-short _ _ c.in_ok-rest.ensures (omega arith) (omega arith))

pub returns : goal.returns
returns c = sym (rest-whole _ _ c.in_ok-rest.ensures (omega arith) (omega arith))
