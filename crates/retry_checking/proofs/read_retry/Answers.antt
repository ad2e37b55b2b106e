-- The form is judged first.
use mathlib.Core.Path.{sym, ◌∙◌}
use Rattle.octets.proofs.Outcome.{refused-first, given-first}
use Rattle.octets.proofs.Refusals.{passed-on}
use Rattle.retry_checking.specs.Retry.{retry_header}
use Rattle.retry_checking.proofs.read_retry.Goals as goal

pub returns-in_err-judge_form : goal.returns-in_err-judge_form
unfolding retry_header
returns-in_err-judge_form c = passed-on _ _ _ c.from_residual.ensures.1 ∙ sym (refused-first _ c.in_err-judge_form.ensures)

pub returns : goal.returns
unfolding retry_header
returns c =
    let formed = c.in_ok-judge_form.ensures in
    c.read_long.ensures ∙ sym (given-first _ formed)
