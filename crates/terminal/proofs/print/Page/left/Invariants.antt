-- A failure stays.
use Rattle.terminal.specs.Pages.{FailureStays}
use Rattle.terminal.proofs.print.Page.left.Given as goal

abbrev pub invariant-loop-blank : goal.invariant-loop-blank
invariant-loop-blank l = FailureStays l.initial.self l.self
