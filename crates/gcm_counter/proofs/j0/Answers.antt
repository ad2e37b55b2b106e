-- The counter block of 1.
use Rattle.gcm_counter.specs.Counter.{j0}
use Rattle.gcm_counter.proofs.j0.Goals as goal

pub returns : goal.returns
unfolding j0
returns c = c.counter_block.ensures
