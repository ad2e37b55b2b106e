-- Four words of four bytes each.
use Rattle.aes_word_state.proofs.States.{input-is}
use Rattle.aes_word_state.proofs.input.Goals as goal

pub returns : goal.returns
returns c =
    input-is c.args.block.now _ _ _ _ (λ i. (c.type_inv.block i).fits) c.requires c.word.ensures c.word-2.ensures c.word-3.ensures
    c.word-4.ensures
