-- One block of the key stream.
use mathlib.Core.Path.{refl}
use lib.ListN.{replicate}
use Rattle.gcm_field.specs.Field.{num}
use Rattle.gcm.proofs.Tagging.{masked-is}
use Rattle.gcm.proofs.masked.Goals as goal

pub returns : goal.returns
returns c =
    let a = c.args in
    masked-is a.schedule.now a.nonce.now _ _ _ (replicate 16 0) _ (num a.block) refl c.j0.ensures c.encrypt-mask.ensures
    c.spelled-plain.ensures c.copy_masked.ensures
