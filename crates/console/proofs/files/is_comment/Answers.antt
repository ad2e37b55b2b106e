-- The tests on the way say what the line is.
use mathlib.Core.Path.{sym, ◌∙◌}
use Rattle.terminal_words.proofs.Lists.{some-character}
use Rattle.console.proofs.Judging.{comment-blank, comment-by}
use Rattle.console.proofs.files.is_comment.Goals as goal

pub returns-then-count-eq0 : goal.returns-then-count-eq0
returns-then-count-eq0 c = sym (comment-blank _ (sym c.count.ensures ∙ c.if-count-eq0.true))

pub bounds-text-0 : goal.bounds-text-0
bounds-text-0 c = some-character 32 _ (λ e. c.if-count-eq0.false (c.count.ensures ∙ e))

pub returns : goal.returns
returns c = sym (comment-by _ (λ e. c.if-count-eq0.false (c.count.ensures ∙ e)))
