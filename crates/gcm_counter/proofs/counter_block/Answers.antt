-- The nonce and the number fill the sixteen bytes.
use Rattle.std.proofs.Common.{replicate, refl, rules}
use Rattle.gcm_counter.proofs.Counting.{counter-block}
use Rattle.gcm_counter.proofs.counter_block.Goals as goal

pub returns : goal.returns
returns c =
    let a = c.args in
    counter-block (replicate 16 0) _ _ a.nonce.now a.count refl (search rules) c.copy.ensures c.store.ensures
