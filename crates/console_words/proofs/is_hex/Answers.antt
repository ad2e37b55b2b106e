-- The tests on the way say what the word is.
use mathlib.Core.Path.{sym, ◌∙◌}
use native.Mathlib.Omega.{arith}
use Rattle.octets.specs.Text.{ascii}
use Rattle.console_words.specs.Words.{is_hex}
use Rattle.console_words.proofs.Hex.{hex-not, hex-odd, hex-even}
use Rattle.console_words.proofs.is_hex.Goals as goal

pub returns-then-same : goal.returns-then-same
unfolding is_hex ascii
returns-then-same c = rw (sym c.same.ensures ∙ c.if-same.true)

pub returns-then-good-text : goal.returns-then-good-text
unfolding ascii
returns-then-good-text c = sym (hex-not _ (sym c.same.ensures ∙ c.if-same.false) (omega arith))

pub returns-then-text-ne0 : goal.returns-then-text-ne0
unfolding ascii
returns-then-text-ne0 c =
    sym (hex-odd _ (sym c.same.ensures ∙ c.if-same.false) (omega arith) c.if-text-ne0.true)

pub returns : goal.returns
unfolding ascii
returns c = sym (hex-even _ (sym c.same.ensures ∙ c.if-same.false) (omega arith) c.if-text-ne0.false)
