-- The blocks that are left, enciphered behind what is done, give what all of them gave at the start.
use Prim.Native.Nat.{◌*◌, ◌/◌}
use mathlib.Core.Path.{◌≡◌}
use lib.ListN.{length}
use Rattle.measured.specs.Measured.{enciphered}
use Rattle.measured.proofs.Blocks.{onward}
use Rattle.measured.proofs.dw_measure_blocks.Given as goal

abbrev pub invariant-loop-k : goal.invariant-loop-k
invariant-loop-k l =
    (length l.buffer ≡ length l.initial.buffer) × (onward l.schedule l.buffer (16 * l.k) ≡ enciphered l.schedule (length l.initial.buffer / 16) l.initial.buffer)
