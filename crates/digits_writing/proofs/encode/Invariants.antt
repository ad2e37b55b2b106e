-- After i turns the digits of the first i bytes stand at the buffer's start.
use Prim.Native.Nat.{◌*◌}
use mathlib.Core.Path.{◌≡◌}
use lib.ListN.{length, take}
use lib.Seq.{paste}
use Rattle.digits_writing.specs.Hex.{hex}
use Rattle.digits_writing.proofs.encode.Given as goal

abbrev pub invariant-loop-i : goal.invariant-loop-i
invariant-loop-i l = (length l.buffer ≡ length l.initial.buffer) × (l.buffer ≡ paste l.initial.buffer 0 (take (2 * l.count) (hex l.bytes)) (2 * l.i))
