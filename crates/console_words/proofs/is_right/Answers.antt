-- The names, in their order.
use mathlib.Core.Path.{sym, ◌∙◌}
use Rattle.octets.specs.Text.{ascii}
use Rattle.console_words.specs.Words.{is_right}
use Rattle.console_words.proofs.is_right.Goals as goal

pub returns-then-same : goal.returns-then-same
unfolding is_right ascii
returns-then-same c =
    let version = sym c.same.ensures ∙ c.if-same.true in
    rw (version, c.is_number.ensures)

pub returns-then-same-2 : goal.returns-then-same-2
unfolding is_right ascii
returns-then-same-2 c =
    let version = sym c.same.ensures ∙ c.if-same.false in
    let side = sym c.same-2.ensures ∙ c.if-same-2.true in
    rw (version, side, c.is_side.ensures)

pub returns-then-same-4 : goal.returns-then-same-4
unfolding is_right ascii
returns-then-same-4 c =
    let version = sym c.same.ensures ∙ c.if-same.false in
    let side = sym c.same-2.ensures ∙ c.if-same-2.false in
    let acknowledged = sym c.same-3.ensures ∙ c.if-same-3.true in
    let none = sym c.same-then-same-3.ensures ∙ c.if-same-4.true in
    rw (version, side, acknowledged, none)

pub returns-then-same-3 : goal.returns-then-same-3
unfolding is_right ascii
returns-then-same-3 c =
    let version = sym c.same.ensures ∙ c.if-same.false in
    let side = sym c.same-2.ensures ∙ c.if-same-2.false in
    let acknowledged = sym c.same-3.ensures ∙ c.if-same-3.true in
    let none = sym c.same-then-same-3.ensures ∙ c.if-same-4.false in
    rw (version, side, acknowledged, none, c.is_number-then-same-3.ensures)

pub returns-then-is_count : goal.returns-then-is_count
unfolding is_right ascii
returns-then-is_count c =
    let version = sym c.same.ensures ∙ c.if-same.false in
    let side = sym c.same-2.ensures ∙ c.if-same-2.false in
    let acknowledged = sym c.same-3.ensures ∙ c.if-same-3.false in
    let count = sym c.is_count.ensures ∙ c.if-is_count.true in
    rw (version, side, acknowledged, count, c.is_number-then-is_count.ensures)

pub returns-then-same-5 : goal.returns-then-same-5
unfolding is_right ascii
returns-then-same-5 c =
    let version = sym c.same.ensures ∙ c.if-same.false in
    let side = sym c.same-2.ensures ∙ c.if-same-2.false in
    let acknowledged = sym c.same-3.ensures ∙ c.if-same-3.false in
    let count = sym c.is_count.ensures ∙ c.if-is_count.false in
    let file = sym c.same-4.ensures ∙ c.if-same-5.true in
    rw (version, side, acknowledged, count, file)

pub returns : goal.returns
unfolding is_right ascii
returns c =
    let version = sym c.same.ensures ∙ c.if-same.false in
    let side = sym c.same-2.ensures ∙ c.if-same-2.false in
    let acknowledged = sym c.same-3.ensures ∙ c.if-same-3.false in
    let count = sym c.is_count.ensures ∙ c.if-is_count.false in
    let file = sym c.same-4.ensures ∙ c.if-same-5.false in
    rw (version, side, acknowledged, count, file, c.is_hex.ensures)
