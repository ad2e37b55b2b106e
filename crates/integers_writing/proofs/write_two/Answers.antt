-- The form's two bits are the number 2^14.
use Rattle.integers_writing.specs.Written.{two}
use Rattle.integers_writing.proofs.write_two.Goals as goal

pub returns : goal.returns
unfolding two
returns c = c.store.ensures
