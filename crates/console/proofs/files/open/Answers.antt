-- A path that is another is not the mark for standard input.
use mathlib.Core.Bool.{false≢true}
use mathlib.Core.Path.{sym, ◌∙◌}
use Rattle.octets.specs.Text.{ascii}
use Rattle.console.proofs.files.open.Goals as goal

pub returns-in-Some : goal.returns-in-Some
unfolding ascii
returns-in-Some g c = λ h. absurd (false≢true (sym c.if-same.false ∙ c.same.ensures ∙ h))

pub returns : goal.returns
unfolding ascii
returns g c = λ h. absurd (false≢true (sym c.if-same.false ∙ c.same.ensures ∙ h))
