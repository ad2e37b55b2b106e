-- The length is compared, and then the digits.
use mathlib.Core.Path.{sym, ◌∙◌}
use Rattle.console_keys.proofs.Judging.{secret-whole, secret-not}
use Rattle.console_keys.proofs.is_secret.Goals as goal

pub returns-then-text-eq-SECRET : goal.returns-then-text-eq-SECRET
returns-then-text-eq-SECRET c = c.is_hex.ensures ∙ sym (secret-whole _ c.if-text-eq-SECRET.true)

pub returns : goal.returns
returns c = sym (secret-not _ c.if-text-eq-SECRET.false)
