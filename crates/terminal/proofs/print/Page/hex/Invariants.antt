-- A failure stays.
use Rattle.terminal.specs.Pages.{FailureStays}
use Rattle.terminal.proofs.print.Page.hex.Given as goal

abbrev pub invariant-loop-part : goal.invariant-loop-part
invariant-loop-part l = FailureStays l.initial.self l.self
