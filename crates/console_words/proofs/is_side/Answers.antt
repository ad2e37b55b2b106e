-- The two tests, in their order.
use mathlib.Core.Path.{sym, ◌∙◌}
use Rattle.octets.specs.Text.{ascii}
use Rattle.console_words.specs.Words.{is_side}
use Rattle.console_words.proofs.is_side.Goals as goal

pub returns-then-same : goal.returns-then-same
unfolding is_side ascii
returns-then-same c =
    let client = sym c.same.ensures ∙ c.if-same.true in
    rw client

pub returns-then-same-2 : goal.returns-then-same-2
unfolding is_side ascii
returns-then-same-2 c =
    let client = sym c.same.ensures ∙ c.if-same.false in
    let server = sym c.same-2.ensures ∙ c.if-same-2.true in
    rw (client, server)

pub returns : goal.returns
unfolding is_side ascii
returns c =
    let client = sym c.same.ensures ∙ c.if-same.false in
    let server = sym c.same-2.ensures ∙ c.if-same-2.false in
    rw (client, server)
