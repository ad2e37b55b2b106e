-- The words between colons are counted, and then judged in their order.
use mathlib.Core.Path.{sym, ap, ◌∙◌}
use Rattle.console_keys.specs.Words.{is_level, is_secret}
use Rattle.console_keys.proofs.Judging.{origin-id, origin-not, origin-secret}
use Rattle.console_keys.proofs.is_origin.Goals as goal

pub returns-then-count-ne2 : goal.returns-then-count-ne2
returns-then-count-ne2 c = c.is_hex.ensures ∙ sym (origin-id _ (λ e. c.if-count-ne2.true (c.count.ensures ∙ e)))

pub returns-then-not-is_level : goal.returns-then-not-is_level
returns-then-not-is_level c =
    let two = sym c.count.ensures ∙ c.if-count-ne2.false in
    let level = c.is_level.ensures ∙ ap is_level c.word.ensures in
    sym (origin-not _ two (sym level ∙ c.if-not-is_level.true))

pub returns : goal.returns
returns c =
    let two = sym c.count.ensures ∙ c.if-count-ne2.false in
    let level = c.is_level.ensures ∙ ap is_level c.word.ensures in
    let secret = c.is_secret.ensures ∙ ap is_secret c.word-2.ensures in
    secret ∙ sym (origin-secret _ two (sym level ∙ c.if-not-is_level.false))
