-- The two tests, in their order.
use mathlib.Core.Path.{sym, ◌∙◌}
use Rattle.octets.specs.Text.{ascii}
use Rattle.wicket_words.specs.Named.{level_named}
use Rattle.wicket_words.proofs.level.Goals as goal

pub returns-then-same : goal.returns-then-same
unfolding level_named ascii
returns-then-same c =
    let early = sym c.same.ensures ∙ c.if-same.true in
    rw early

pub returns-then-same-2 : goal.returns-then-same-2
unfolding level_named ascii
returns-then-same-2 c =
    let early = sym c.same.ensures ∙ c.if-same.false in
    let handshake = sym c.same-2.ensures ∙ c.if-same-2.true in
    rw (early, handshake)

pub returns : goal.returns
unfolding level_named ascii
returns c =
    let early = sym c.same.ensures ∙ c.if-same.false in
    let handshake = sym c.same-2.ensures ∙ c.if-same-2.false in
    rw (early, handshake)
