-- The definition, as it is written.
use mathlib.Core.Path.{refl}
use Rattle.aes_s_box.specs.Field.{x_times}
use Rattle.aes_mixing.proofs.x_times.Goals as goal

pub returns : goal.returns
unfolding x_times
returns c = refl
