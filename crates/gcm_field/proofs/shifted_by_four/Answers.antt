-- A shift of two words by four.
use native.Mathlib.Omega.{arith}
use Rattle.gcm_field.proofs.Words.{shift-four}
use Rattle.gcm_field.proofs.shifted_by_four.Goals as goal

pub returns : goal.returns
returns c =
    let v = c.args.v in
    shift-four v.hi v.lo c.reduced.result (omega arith) c.reduced.ensures
