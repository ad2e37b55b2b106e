-- The lines passed are on other commands.
use mathlib.Core.Path.{◌≡◌}
use Rattle.terminal_words.specs.Words.{words_from}
use Rattle.console_calls.specs.Calls.{usage_among, usage_of}
use Rattle.console_calls.proofs.usage_of.Given as goal

abbrev pub invariant-loop-i : goal.invariant-loop-i
invariant-loop-i l = usage_among l.command (words_from 10 l.manual l.i) ≡ usage_of l.manual l.command
