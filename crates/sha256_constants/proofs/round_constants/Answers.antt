-- The code's table is that of the definition, entry by entry.
use Rattle.std.proofs.Common.{refl}
use Rattle.sha256_constants.specs.Constants.{K}
use Rattle.sha256_constants.proofs.round_constants.Goals as goal

pub invariant_of-result : goal.invariant_of-result
unfolding K
invariant_of-result c = record { are_k = refl }
