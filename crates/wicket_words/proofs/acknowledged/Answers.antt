-- The word is compared, and else read.
use mathlib.Core.Path.{sym, ◌∙◌}
use Rattle.octets.specs.Text.{ascii}
use Rattle.wicket_words.proofs.acknowledged.Goals as goal

pub returns-then-same : goal.returns-then-same
unfolding ascii
returns-then-same c = rw (sym c.word.ensures, sym c.same.ensures ∙ c.if-same.true)

pub returns : goal.returns
unfolding ascii
returns c = rw (c.number.ensures, sym c.word.ensures, sym c.same.ensures ∙ c.if-same.false)
