-- The runs before this one are filled, and V is that of the next.
use Prim.Native.Nat.{◌*◌}
use mathlib.Core.Path.{◌≡◌}
use Rattle.gcm_field.specs.Field.{num, nexts}
use Rattle.gcm_table.specs.Table.{Filled}
use Rattle.gcm_table.proofs.make_table.Given as goal

abbrev pub invariant-loop-run : goal.invariant-loop-run
invariant-loop-run l = (num l.v ≡ nexts (16 * l.run) (num l.initial.v)) × Filled (num l.initial.v) l.entries (16 * l.run)
