-- What is left from the state so far gives what all bytes give from the first.
use Prim.Native.Nat.{◌-◌, ◌≤◌}
use mathlib.Core.Path.{◌≡◌}
use lib.ListN.{length, drop}
use Rattle.gcm_table.specs.Table.{key_of}
use Rattle.gcm_hash.specs.Hash.{state, absorbed}
use Rattle.gcm_hash.proofs.Ghash.absorb.Given as goal

abbrev pub invariant-loop-at : goal.invariant-loop-at
invariant-loop-at l = (l.at ≤ length l.bytes) × (absorbed (key_of l.table.entries) (state l.g) (drop l.at l.bytes) ≡ absorbed (key_of l.table.entries) (state l.initial.g) l.bytes)

abbrev pub decreases-loop-at : goal.decreases-loop-at
decreases-loop-at l = length l.bytes - l.at
