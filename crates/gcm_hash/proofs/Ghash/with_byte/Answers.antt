-- The byte falls into the high word or the low one.
use native.Mathlib.Omega.{arith}
use Rattle.gcm_hash.proofs.Adding.{put-high, put_low}
use Rattle.gcm_hash.proofs.Ghash.with_byte.Goals as goal

pub returns-then-self-lt8 : goal.returns-then-self-lt8
returns-then-self-lt8 c =
    let g = c.args.self in
    put-high g.y.hi g.y.lo g.filled c.args.byte (omega arith) (omega arith) (omega arith)

pub returns-else-self-lt8 : goal.returns-else-self-lt8
returns-else-self-lt8 c =
    let g = c.args.self in
    put_low g.y.hi g.y.lo g.filled c.args.byte (omega arith) (omega arith) (omega arith) g.is_open
