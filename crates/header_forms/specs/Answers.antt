-- The code's form and its answer, as what they stand for.
use Rattle.std.specs.Prelude.{Result}
use Rattle.octets.specs.Outcome.{Outcome}
use Rattle.octets.specs.Refusals.{outcome}
use Rattle.octets.specs.declared.refusal.Refusal.{Refusal}
use Rattle.header_forms.specs.Forms as First
use Rattle.header_forms.specs.declared.Form.{Form}

abbrev pub form_of : Form → First.Form
form_of Form.Long = First.long_form

abbrev pub formed_answer : Result (Unit {0}) Refusal → Outcome (Unit {0})
formed_answer = outcome (λ u. u)
