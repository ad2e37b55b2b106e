-- The three tests, in their order.
use mathlib.Core.Path.{sym, ◌∙◌}
use Rattle.octets.specs.Text.{ascii}
use Rattle.console_keys.specs.Words.{is_level}
use Rattle.console_keys.proofs.is_level.Goals as goal

pub returns-then-same : goal.returns-then-same
unfolding is_level ascii
returns-then-same c =
    let initial = sym c.same.ensures ∙ c.if-same.true in
    rw initial

pub returns-then-same-2 : goal.returns-then-same-2
unfolding is_level ascii
returns-then-same-2 c =
    let initial = sym c.same.ensures ∙ c.if-same.false in
    let early = sym c.same-2.ensures ∙ c.if-same-2.true in
    rw (initial, early)

pub returns-then-same-3 : goal.returns-then-same-3
unfolding is_level ascii
returns-then-same-3 c =
    let initial = sym c.same.ensures ∙ c.if-same.false in
    let early = sym c.same-2.ensures ∙ c.if-same-2.false in
    let handshake = sym c.same-3.ensures ∙ c.if-same-3.true in
    rw (initial, early, handshake)

pub returns : goal.returns
unfolding is_level ascii
returns c =
    let initial = sym c.same.ensures ∙ c.if-same.false in
    let early = sym c.same-2.ensures ∙ c.if-same-2.false in
    let handshake = sym c.same-3.ensures ∙ c.if-same-3.false in
    rw (initial, early, handshake)
