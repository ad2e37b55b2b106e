-- The eight variables, with what the two calls ensure put in.
use Rattle.sha256_rounds.proofs.Sums.{rounded}
use Rattle.sha256_rounds.proofs.one_round.Goals as goal

pub returns : goal.returns
returns c = rounded c.args.k c.args.w c.args.v c.temporary1-t1.ensures c.temporary2-t2.ensures
