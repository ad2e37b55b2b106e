-- Four words, written one after the other.
use Rattle.octets.specs.Octets.{bytes}
use Rattle.aes_word_state.proofs.States.{output-is}
use Rattle.aes_word_state.proofs.output.Goals as goal

pub returns : goal.returns
unfolding bytes
returns c =
    let s = c.args.s in
    output-is s.a s.b s.c s.d c.store.ensures c.store-2.ensures c.store-3.ensures c.store-4.ensures
