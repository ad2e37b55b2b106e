-- The table's rule, by one test over its entries.
use mathlib.Core.Path.{refl}
use Rattle.aes_s_box.specs.Field.{x_times}
use Rattle.aes_schedule.specs.Expansion.{x_power}
use Rattle.aes_schedule.proofs.PowerTable.{powered}
use Rattle.aes_schedule.proofs.powers.Goals as goal

pub returns : goal.returns
unfolding x_power x_times
returns c = powered _ refl tt
