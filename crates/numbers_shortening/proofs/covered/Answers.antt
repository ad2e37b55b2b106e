-- Four bytes cover the gap, or none do.
use mathlib.Core.Path.{sym}
use native.Mathlib.Omega.{arith}
use Rattle.numbers_shortening.proofs.Shortening.{uncovered, covered}
use Rattle.numbers_shortening.proofs.covered.Goals as goal

pub returns-then-distance-ge-UNCOVERED : goal.returns-then-distance-ge-UNCOVERED
returns-then-distance-ge-UNCOVERED c = sym (uncovered _ (omega arith))

pub returns : goal.returns
returns c = sym (covered _ (omega arith))
