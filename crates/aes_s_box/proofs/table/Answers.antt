-- The table's rule, by one test over its entries.
use mathlib.Core.Path.{refl}
use Rattle.aes_s_box.specs.Box.{spelled}
use Rattle.aes_s_box.proofs.Entries.{inverses, boxed}
use Rattle.aes_s_box.proofs.table.Goals as goal

pub invariant_of-result : goal.invariant_of-result
unfolding inverses spelled
invariant_of-result c = record { is_box = boxed _ refl tt }
