-- What is left to make from the words in the buffer so far is the expansion of the key.
use Prim.Native.Nat.{◌-◌, ◌*◌}
use mathlib.Core.Path.{◌≡◌}
use lib.ListN.{length, take}
use Rattle.aes_schedule.specs.Expansion.{grown, expansion}
use Rattle.aes_schedule.proofs.expand_key.Given as goal

abbrev pub invariant-loop-i : goal.invariant-loop-i
invariant-loop-i l = (length l.w ≡ 176) × (grown (44 - l.i) l.i (take (4 * l.i) l.w) ≡ expansion l.key)
