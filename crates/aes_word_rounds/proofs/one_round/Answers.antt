-- Four columns, each as its contract says.
use Rattle.octets.specs.Octets.{bytes}
use Rattle.aes_word_state.proofs.States.{by-columns}
use Rattle.aes_word_rounds.proofs.one_round.Goals as goal

pub returns : goal.returns
unfolding bytes
returns c = by-columns _ _ _ _ c.mix.ensures c.mix-2.ensures c.mix-3.ensures c.mix-4.ensures
