-- The word is compared.
use mathlib.Core.Path.{sym, ◌∙◌}
use Rattle.octets.specs.Text.{ascii}
use Rattle.wicket_words.proofs.side.Goals as goal

pub returns-then-same : goal.returns-then-same
unfolding ascii
returns-then-same c = rw (sym c.word.ensures, sym c.same.ensures ∙ c.if-same.true)

pub returns-else-same : goal.returns-else-same
unfolding ascii
returns-else-same c = rw (sym c.word.ensures, sym c.same.ensures ∙ c.if-same.false)
