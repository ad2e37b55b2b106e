-- Each refusal is one law, and so are the keys.
use mathlib.Core.Path.{sym, ap, ◌∙◌}
use native.Mathlib.Omega.{arith}
use Rattle.octets.specs.Outcome.{given}
use Rattle.versions.specs.Levels.{initial}
use Rattle.keys_expansion.specs.Expansion.{keys_from}
use Rattle.keys.proofs.Made.{unknown-version, long-id, keys-made}
use Rattle.keys.proofs.initial_keys.Goals as goal

pub returns-then-not-is_known : goal.returns-then-not-is_known
returns-then-not-is_known c = sym (unknown-version _ _ _ (sym c.is_known.ensures ∙ c.if-not-is_known.true))

pub returns-then-destination-gt-LONGEST_ID : goal.returns-then-destination-gt-LONGEST_ID
returns-then-destination-gt-LONGEST_ID c = sym (long-id _ _ _ (sym c.is_known.ensures ∙ c.if-not-is_known.false) (omega arith))

pub returns : goal.returns
returns c =
    ap given (c.keys_from.ensures ∙ ap (keys_from c.args.number initial) c.secret_of-secret.ensures)
    ∙ sym (keys-made _ _ _ (sym c.is_known.ensures ∙ c.if-not-is_known.false) (omega arith))
