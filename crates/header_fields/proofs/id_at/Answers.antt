-- Each answer is one law.
use mathlib.Core.Path.{sym}
use native.Mathlib.Omega.{arith}
use Rattle.header_fields.proofs.Fields.{id-none, id-long, id-short, id-whole}
use Rattle.header_fields.proofs.id_at.Goals as goal

pub returns-then-datagram-at : goal.returns-then-datagram-at
returns-then-datagram-at c = sym (id-none _ _ c.if-datagram-at.true)

pub returns-then-len-gt-LONGEST_ID : goal.returns-then-len-gt-LONGEST_ID
returns-then-len-gt-LONGEST_ID c = sym (id-long _ _ c.if-datagram-at.false (omega arith))

pub returns-then-datagram-at-2 : goal.returns-then-datagram-at-2
returns-then-datagram-at-2 c = sym (id-short _ _ c.if-datagram-at.false c.if-len-gt-LONGEST_ID.false (omega arith))

pub returns : goal.returns
returns c = sym (id-whole _ _ c.if-datagram-at.false c.if-len-gt-LONGEST_ID.false (omega arith))
