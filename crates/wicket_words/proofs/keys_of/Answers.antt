-- The second word has a colon in it, or is an ID.
use mathlib.Core.Path.{sym, ap, ◌∙◌}
use Rattle.std.proofs.Common.{eq-eqb, ne_eqb}
use Rattle.terminal_words.specs.Words.{word_count}
use Rattle.wicket_words.specs.Named.{keys_named}
use Rattle.wicket_words.proofs.keys_of.Goals as goal

pub returns-then-count-eq2 : goal.returns-then-count-eq2
unfolding keys_named
returns-then-count-eq2 c =
    let two = sym c.count.ensures ∙ c.if-count-eq2.true in
    rw (sym c.word-origin.ensures, eq-eqb _ 2 two, sym c.word.ensures, sym c.word-then-count-eq2.ensures) c.install.ensures

pub returns : goal.returns
unfolding keys_named
returns c =
    let words = c.count.ensures ∙ ap (word_count 58) c.word-origin.ensures in
    rw (ne_eqb _ 2 (λ e. c.if-count-eq2.false (words ∙ e))) c.initial_of.ensures
