-- {02} is x_times, and {03} is it and the byte.
use Rattle.aes_mixing.specs.Mixing.{mixed}
use Rattle.aes_mixing.proofs.Factors.{two, three}
use Rattle.aes_mixing.proofs.mix.Goals as goal

pub returns : goal.returns
unfolding mixed
returns c =
    let a = c.args in
    cc (two a.a, three a.b)
