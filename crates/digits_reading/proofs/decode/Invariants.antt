-- After i turns the first i bytes stand at the buffer's start.
use mathlib.Core.Path.{◌≡◌}
use lib.ListN.{length, take}
use lib.Seq.{paste}
use Rattle.digits_reading.specs.Digits.{pairs}
use Rattle.digits_reading.proofs.decode.Given as goal

abbrev pub invariant-loop-i : goal.invariant-loop-i
invariant-loop-i l = (length l.buffer ≡ length l.initial.buffer) × (l.buffer ≡ paste l.initial.buffer 0 (take l.count (pairs l.text)) l.i)
