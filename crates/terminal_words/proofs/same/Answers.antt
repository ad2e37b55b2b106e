use mathlib.Core.Path.{◌∙◌}
use Rattle.terminal_words.proofs.Texts.{equal-is-same}
use Rattle.terminal_words.proofs.same.Goals as goal

pub returns : goal.returns
returns c = c.eq.ensures ∙ equal-is-same _ _
