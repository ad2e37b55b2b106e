-- Two words fill the sixteen bytes.
use mathlib.Core.Path.{refl}
use native.Mathlib.Omega.{arith}
use lib.ListN.{replicate}
use Rattle.gcm.proofs.Tagging.{spelled_is}
use Rattle.gcm.proofs.spelled.Goals as goal

pub returns : goal.returns
returns c =
    let block = c.args.block in
    spelled_is (replicate 16 0) _ _ block.hi block.lo refl (omega arith) c.store.ensures c.store-2.ensures
