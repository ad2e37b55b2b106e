-- The first byte says how many bytes there are: one, two, four or eight.
use mathlib.Core.Path.{sym}
use native.Mathlib.Omega.{arith}
use lib.Seq.{length-take-le}
use Rattle.integers.proofs.Integers.{counted, nothing-there, not-whole, read}
use Rattle.integers.proofs.read_integer.Goals as goal

pub returns-then-bytes-lt1 : goal.returns-then-bytes-lt1
returns-then-bytes-lt1 c = record { answer = sym (nothing-there _ (omega arith)) }

pub returns-then-bytes-taken : goal.returns-then-bytes-taken
returns-then-bytes-taken c = record { answer = sym (not-whole _ _ c.power-taken.ensures (omega arith) (omega arith)) }

pub load-form_and_value-requires : goal.load-form_and_value-requires
load-form_and_value-requires c =
    let eight = counted _ (c.type_inv.bytes 0).fits c.power-taken.ensures in
    rw (length-take-le c.power-taken.result c.args.bytes.now (omega arith)) eight.few

pub power-requires : goal.power-requires
power-requires c = omega (arith, counted _ (c.type_inv.bytes 0).fits c.power-taken.ensures)

pub returns : goal.returns
returns c =
    let taken = c.power-taken.ensures in
    record { answer = read _ _ taken (omega arith) (omega arith) c.load-form_and_value.ensures c.power.ensures }
