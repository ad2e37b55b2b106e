-- After i turns the first i bytes of the masked source are laid over the buffer.
use Prim.Native.Nat.{◌≤◌}
use mathlib.Core.Path.{◌≡◌}
use lib.ListN.{length}
use lib.Seq.{paste}
use Rattle.octets.specs.Octets.{xor}
use Rattle.octets.proofs.copy_masked.Given as goal

abbrev pub invariant-loop-i : goal.invariant-loop-i
invariant-loop-i l = (l.i ≤ length l.source) × (length l.buffer ≡ length l.initial.buffer) × (l.buffer ≡ paste l.initial.buffer l.at (xor l.source l.mask) l.i)
