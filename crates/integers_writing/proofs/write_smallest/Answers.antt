-- The form goes by the integer's size.
use borrow.Author.Rules.{rules}
use native.Mathlib.Omega.{arith}
use Rattle.integers_writing.proofs.Forms.{smallest-one, smallest-two, smallest-four, one-length, two-length, four-length}
use Rattle.integers_writing.proofs.write_smallest.Goals as goal

pub store-requires : goal.store-requires
store-requires c = (search rules, omega (arith, one-length c.args.value (omega arith)))

pub returns-then-value-lt64 : goal.returns-then-value-lt64
returns-then-value-lt64 c = rw (smallest-one c.args.value (omega arith)) c.store.ensures

pub write_two-requires : goal.write_two-requires
write_two-requires c = (search rules, omega (arith, two-length c.args.value (omega arith) (omega arith)))

pub returns-then-value-lt16384 : goal.returns-then-value-lt16384
returns-then-value-lt16384 c = rw (smallest-two c.args.value (omega arith) (omega arith)) c.write_two.ensures

pub store-requires-2 : goal.store-requires-2
store-requires-2 c = (search rules, omega (arith, four-length c.args.value (omega arith)))

pub returns : goal.returns
returns c = rw (smallest-four c.args.value (omega arith)) c.store-2.ensures
