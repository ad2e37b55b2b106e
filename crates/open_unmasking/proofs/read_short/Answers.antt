-- What is read of bytes spells them.
use Rattle.open_unmasking.proofs.Masking.{spells}
use Rattle.open_unmasking.proofs.read_short.Goals as goal

pub returns : goal.returns
returns c = spells _ _ (λ i. (c.type_inv.short i).fits) c.load.ensures
