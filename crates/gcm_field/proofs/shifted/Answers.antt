-- A shift of two words by one.
use mathlib.Core.Path.{refl}
use native.Mathlib.Omega.{arith}
use Rattle.gcm_field.proofs.Words.{shift_one}
use Rattle.gcm_field.proofs.shifted.Goals as goal

pub returns : goal.returns
returns c =
    let v = c.args.v in
    shift_one v.hi v.lo _ (omega arith) refl
