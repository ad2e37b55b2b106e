-- Four columns, each as its contract says.
use Rattle.octets.specs.Octets.{bytes}
use Rattle.aes_word_state.proofs.States.{by-columns}
use Rattle.aes_word_rounds.proofs.last_round.Goals as goal

pub returns : goal.returns
unfolding bytes
returns c = by-columns _ _ _ _ c.plain.ensures c.plain-2.ensures c.plain-3.ensures c.plain-4.ensures
