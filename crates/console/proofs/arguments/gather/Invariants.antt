-- What is gathered stays within the line.
use Rattle.std.proofs.Common.{◌≤◌, length}
use Rattle.console.proofs.arguments.gather.Given as goal

abbrev pub invariant-loop-index : goal.invariant-loop-index
invariant-loop-index g l = l.end ≤ length l.line
