-- Four times four steps.
use mathlib.Core.Path.{sym, ap, ◌∙◌}
use Rattle.gcm_field.specs.Field.{num, nexts}
use Rattle.gcm_field.proofs.Linear.{nexts-add}
use Rattle.gcm_field.proofs.next_run.Goals as goal

pub returns : goal.returns
returns c =
    let v = num c.args.v in
    let two = c.shifted_by_four-2.ensures ∙ ap (nexts 4) c.shifted_by_four.ensures ∙ sym (nexts-add 4 4 v) in
    let three = c.shifted_by_four-3.ensures ∙ ap (nexts 4) two ∙ sym (nexts-add 8 4 v) in
    c.shifted_by_four-4.ensures ∙ ap (nexts 4) three ∙ sym (nexts-add 12 4 v)
