-- The form is judged first, and then every known version is taken.
use mathlib.Core.Path.{sym, ◌∙◌}
use Rattle.octets.proofs.Outcome.{refused-first, given-first}
use Rattle.octets.proofs.Refusals.{passed-on}
use Rattle.header_reading.specs.PacketHeader.{any_header}
use Rattle.header_reading.proofs.read_header.Goals as goal

pub returns-in_err-judge_form : goal.returns-in_err-judge_form
unfolding any_header
returns-in_err-judge_form c =
    record { answer = passed-on _ _ _ c.from_residual.ensures.1 ∙ sym (refused-first _ c.in_err-judge_form.ensures) }

pub returns : goal.returns
unfolding any_header
returns c =
    let formed = c.in_ok-judge_form.ensures in
    record { answer = c.read_fields.ensures ∙ sym (given-first _ formed) }
