-- Before turn t the first t words of the schedule are there.
use Rattle.std.proofs.Common.{◌≡◌, length}
use Rattle.octets.proofs.Rule.{Filled}
use Rattle.sha256_schedule.specs.Schedule.{W}
use Rattle.sha256_schedule.proofs.schedule.Given as goal

abbrev pub invariant-loop-t : goal.invariant-loop-t
invariant-loop-t l = (length l.w ≡ 64) × Filled (W l.m) l.w l.t
