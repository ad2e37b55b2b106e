-- The table's rule, by one test over its entries.
use mathlib.Core.Path.{refl}
use Rattle.octets.specs.Octets.{number}
use Rattle.aes_s_box.specs.Field.{x_times, sums}
use Rattle.aes_s_box.specs.Box.{spelled}
use Rattle.aes_s_box.proofs.Entries.{inverses}
use Rattle.aes_word_table.proofs.Entries.{mixing}
use Rattle.aes_word_table.proofs.table.Goals as goal

pub invariant_of-result : goal.invariant_of-result
unfolding inverses spelled number sums x_times
invariant_of-result c = record { is_mixing = mixing _ refl tt }
