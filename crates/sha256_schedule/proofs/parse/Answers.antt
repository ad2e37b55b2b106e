use Rattle.std.proofs.Common.{◌≡◌, arith}
use Rattle.sha256_schedule.proofs.Parts.{words_are}
use Rattle.sha256_schedule.proofs.parse.Goals as goal

pub returns : goal.returns
returns c =
    let l = c.loop-i in
    let all : l.i ≡ 16 = omega arith in
    words_are l.m c.args.block.now l.invariant.0 (rw all at l.invariant.1)
