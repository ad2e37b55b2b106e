-- After i turns the first i bytes of the source are laid over the buffer.
use Prim.Native.Nat.{◌≤◌}
use mathlib.Core.Path.{◌≡◌}
use lib.ListN.{length}
use lib.Seq.{paste}
use Rattle.octets.proofs.copy.Given as goal

abbrev pub invariant-loop-i : goal.invariant-loop-i
invariant-loop-i l = (l.i ≤ length l.source) × (length l.buffer ≡ length l.initial.buffer) × (l.buffer ≡ paste l.initial.buffer l.at l.source l.i)
