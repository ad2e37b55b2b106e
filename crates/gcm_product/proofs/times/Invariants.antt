-- After n turns, Z holds the share of the product that four bits a turn of each run have.
use Prim.Native.Nat.{◌*◌}
use Rattle.gcm_field.specs.Field.{num}
use Rattle.gcm_table.specs.Table.{key_of}
use Rattle.gcm_product.proofs.Runs.{Partly}
use Rattle.gcm_product.proofs.times.Given as goal

abbrev pub invariant-loop-n : goal.invariant-loop-n
invariant-loop-n l = Partly (key_of l.table.entries) l.x.hi l.x.lo (4 * l.n) (num l.z)
