-- A bit is 0 or 1, so the products fit.
use Prim.Native.Nat.{◌^◌}
use native.Mathlib.Omega.{arith}
use Rattle.measured.proofs.ByBits.{digit-times}
use Rattle.measured.proofs.by_bits.chosen.Goals as goal

pub overflow_mul-result : goal.overflow_mul-result
overflow_mul-result c = omega (arith, digit-times c.args.bit c.args.v.hi (2 ^ 64) (omega arith) (omega arith))

pub overflow_mul-result-2 : goal.overflow_mul-result-2
overflow_mul-result-2 c = omega (arith, digit-times c.args.bit c.args.v.lo (2 ^ 64) (omega arith) (omega arith))
