-- Each refusal is one law, and so are the keys; a level that is installed fits its byte.
use mathlib.Core.Path.{sym, ap, ◌∙◌}
use native.Mathlib.Omega.{arith}
use Rattle.octets.specs.Outcome.{given}
use Rattle.keys.proofs.Installed.{installs-fits, install-unknown, install-level, install-given}
use Rattle.keys.proofs.install_keys.Goals as goal

pub returns-then-not-is_known : goal.returns-then-not-is_known
returns-then-not-is_known c = sym (install-unknown _ _ _ _ (sym c.is_known.ensures ∙ c.if-not-is_known.true))

pub returns-then-not-installs : goal.returns-then-not-installs
returns-then-not-installs c =
    sym (install-level _ _ _ _ (sym c.is_known.ensures ∙ c.if-not-is_known.false) (sym c.installs.ensures ∙ c.if-not-installs.true))

pub overflow_cast-level : goal.overflow_cast-level
overflow_cast-level c = omega (arith, installs-fits _ _ (sym c.installs.ensures ∙ c.if-not-installs.false))

pub returns : goal.returns
returns c =
    ap given c.keys_from.ensures
    ∙ sym (install-given _ _ _ _ (sym c.is_known.ensures ∙ c.if-not-is_known.false) (sym c.installs.ensures ∙ c.if-not-installs.false))
