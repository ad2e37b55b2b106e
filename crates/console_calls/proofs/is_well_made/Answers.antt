-- The line of the manual is the one on the command, and the call was judged by it.
use mathlib.Core.Path.{sym, ap, ◌∙◌}
use borrow.Author.Tests.{eqb-true, eqb-false}
use lib.ListN.{length}
use Rattle.console_calls.specs.Calls.{usage_of, made_as}
use Rattle.console_calls.proofs.Judging.{made_none, made-uneven, made_by}
use Rattle.console_calls.proofs.is_well_made.Goals as goal
use Rattle.console_calls.proofs.is_well_made.Goals.{then-are_enough+else-are_right, else-are_enough}

pub returns-then-is_empty : goal.returns-then-is_empty
returns-then-is_empty c =
    let line = c.args.line.now in
    let usage = c.usage_of-usage.ensures ∙ ap (usage_of _) c.word-command.ensures in
    sym (made_none line _ (eqb-true (length c.usage_of-usage.result.now) 0 (sym c.if-is_empty.ensures))) ∙ ap (made_as line) usage

pub returns-then-are_right : goal.returns-then-are_right
returns-then-are_right c =
    let line = c.args.line.now in
    let usage = c.usage_of-usage.ensures ∙ ap (usage_of _) c.word-command.ensures in
    let there = eqb-false (length c.usage_of-usage.result.now) 0 (sym c.if-is_empty.ensures) in
    sym c.if-are_right.true ∙ c.are_right.ensures ∙ sym (made_by line _ there) ∙ ap (made_as line) usage

pub returns : goal.returns
returns c =
    let line = c.args.line.now in
    let usage = c.usage_of-usage.ensures ∙ ap (usage_of _) c.word-command.ensures in
    let there = eqb-false (length c.usage_of-usage.result.now) 0 (sym c.if-is_empty.ensures) in
    elim c.if-are_enough.branch [
      | then-are_enough+else-are_right w ↦ sym w.if-are_right.false ∙ w.are_right.ensures ∙ sym (made_by line _ there) ∙ ap (made_as line) usage
      | else-are_enough w ↦ sym (made-uneven line _ (sym c.are_enough.ensures ∙ w.if-are_enough.false)) ∙ ap (made_as line) usage
    ]
