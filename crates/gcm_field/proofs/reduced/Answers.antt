-- The rule is tested at each number below 16.
use Rattle.gcm_field.specs.Field.{next, nexts}
use Rattle.gcm_field.proofs.Words.{reduced-is}
use Rattle.gcm_field.proofs.reduced.Goals as goal

pub returns : goal.returns
unfolding nexts next
returns c = reduced-is _ _ _ _ tt c.args.k c.requires
