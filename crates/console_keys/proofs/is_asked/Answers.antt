-- The names, in their order.
use mathlib.Core.Path.{sym, ◌∙◌}
use Rattle.octets.specs.Text.{ascii}
use Rattle.console_keys.specs.Words.{is_asked}
use Rattle.console_keys.proofs.is_asked.Goals as goal

pub returns-then-same : goal.returns-then-same
unfolding is_asked ascii
returns-then-same c =
    let level = sym c.same.ensures ∙ c.if-same.true in
    rw (level, c.is_level.ensures)

pub returns-then-same-2 : goal.returns-then-same-2
unfolding is_asked ascii
returns-then-same-2 c =
    let level = sym c.same.ensures ∙ c.if-same.false in
    let secret = sym c.same-2.ensures ∙ c.if-same-2.true in
    rw (level, secret, c.is_secret.ensures)

pub returns-then-same-3 : goal.returns-then-same-3
unfolding is_asked ascii
returns-then-same-3 c =
    let level = sym c.same.ensures ∙ c.if-same.false in
    let secret = sym c.same-2.ensures ∙ c.if-same-2.false in
    let origin = sym c.same-3.ensures ∙ c.if-same-3.true in
    rw (level, secret, origin, c.is_origin.ensures)

pub returns : goal.returns
unfolding is_asked ascii
returns c =
    let level = sym c.same.ensures ∙ c.if-same.false in
    let secret = sym c.same-2.ensures ∙ c.if-same-2.false in
    let origin = sym c.same-3.ensures ∙ c.if-same-3.false in
    rw (level, secret, origin, c.is_right.ensures)
