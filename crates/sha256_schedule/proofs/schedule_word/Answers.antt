-- The two cases of the schedule's rule: a word of the block, and a word from those before it.
use Rattle.std.proofs.Common.{◌-◌, ◌≤◌, arith}
use Rattle.sha256_schedule.proofs.Latest.{schedule-first, schedule-next}
use Rattle.sha256_schedule.proofs.schedule_word.Goals as goal

pub returns-then-t-lt16 : goal.returns-then-t-lt16
returns-then-t-lt16 c = schedule-first c.args.m.now c.requires.0 c.args.t (omega arith)

pub returns : goal.returns
returns c =
    let m = c.args.m.now in
    let t = c.args.t in
    let w = c.requires.2 in
    let late : 16 ≤ t = omega arith in
    cc (schedule-next m c.requires.0 t late, w (t - 2) (omega arith), w (t - 7) (omega arith), w (t - 15) (omega arith), w (t - 16) (omega arith))
