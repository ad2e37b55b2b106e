-- After i turns the first i bytes of the number are laid over the buffer.
use Prim.Native.Nat.{◌≤◌}
use mathlib.Core.Path.{◌≡◌}
use lib.ListN.{length}
use lib.Seq.{paste}
use Rattle.octets.specs.Octets.{bytes}
use Rattle.octets.proofs.store.Given as goal

abbrev pub invariant-loop-i : goal.invariant-loop-i
invariant-loop-i l = (l.i ≤ l.width) × (length l.buffer ≡ length l.initial.buffer) × (l.buffer ≡ paste l.initial.buffer l.at (bytes l.width l.value) l.i)
