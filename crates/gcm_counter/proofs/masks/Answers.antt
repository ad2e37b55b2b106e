-- The blocks of two numbers, the second one above the first.
use Rattle.std.proofs.Common.{◌∙◌, refl, rules}
use Rattle.gcm_counter.proofs.Counting.{next-block, masks-are}
use Rattle.gcm_counter.proofs.masks.Goals as goal

pub returns : goal.returns
returns c =
    let a = c.args in
    masks-are a.schedule.now _ _ _ c.encrypt_two.ensures c.counter_block-one.ensures
    (c.counter_block-two.ensures ∙ next-block a.nonce.now a.count _ (search rules) refl)
