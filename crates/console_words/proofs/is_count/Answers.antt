-- The four names, in their order.
use mathlib.Core.Path.{sym, ◌∙◌}
use Rattle.octets.specs.Text.{ascii}
use Rattle.console_words.specs.Words.{is_count}
use Rattle.console_words.proofs.is_count.Goals as goal

pub returns-then-same : goal.returns-then-same
unfolding is_count ascii
returns-then-same c =
    let number = sym c.same.ensures ∙ c.if-same.true in
    rw number

pub returns-then-same-2 : goal.returns-then-same-2
unfolding is_count ascii
returns-then-same-2 c =
    let number = sym c.same.ensures ∙ c.if-same.false in
    let length = sym c.same-2.ensures ∙ c.if-same-2.true in
    rw (number, length)

pub returns-then-same-3 : goal.returns-then-same-3
unfolding is_count ascii
returns-then-same-3 c =
    let number = sym c.same.ensures ∙ c.if-same.false in
    let length = sym c.same-2.ensures ∙ c.if-same-2.false in
    let expected = sym c.same-3.ensures ∙ c.if-same-3.true in
    rw (number, length, expected)

pub returns : goal.returns
unfolding is_count ascii
returns c =
    let number = sym c.same.ensures ∙ c.if-same.false in
    let length = sym c.same-2.ensures ∙ c.if-same-2.false in
    let expected = sym c.same-3.ensures ∙ c.if-same-3.false in
    rw (number, length, expected, c.same-4.ensures)
