-- After k turns the entries below e + i + k are right, for every key for which the first ones and w are.
use Prim.Native.Nat.{ℕ, ◌+◌}
use mathlib.Core.Path.{◌≡◌}
use lib.ListN.{length}
use Rattle.gcm_field.specs.Field.{num, nexts, steps}
use Rattle.gcm_table.specs.Table.{Filled}
use Rattle.gcm_table.proofs.double.Given as goal

abbrev pub invariant-loop-k : goal.invariant-loop-k
invariant-loop-k l =
    (length l.table ≡ 128)
    × ((h : ℕ) → num l.w ≡ steps 4 l.i 0 (nexts l.e h) → Filled h l.initial.table (l.e + l.i) → Filled h l.table (l.e + l.i + l.k))
