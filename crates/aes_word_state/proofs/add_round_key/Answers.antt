-- Four columns, each the sum of two.
use Rattle.octets.specs.Octets.{bytes}
use Rattle.aes_word_columns.proofs.Columns.{bytes-xor}
use Rattle.aes_word_state.proofs.States.{by-columns}
use Rattle.aes_word_state.proofs.add_round_key.Goals as goal

pub returns : goal.returns
unfolding bytes
returns c =
    let a = c.args in
    by-columns _ _ _ _ (bytes-xor a.s.a a.key.a) (bytes-xor a.s.b a.key.b) (bytes-xor a.s.c a.key.c) (bytes-xor a.s.d a.key.d)
