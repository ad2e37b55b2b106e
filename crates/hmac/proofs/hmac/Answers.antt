-- The actual key is the key's hash, or the key.
use mathlib.Core.Path.{sym, ◌∙◌}
use native.Mathlib.Omega.{arith}
use Rattle.hmac.proofs.Keyed.{key-as-it-is, key-hashed, hmac-is}
use Rattle.hmac.proofs.hmac.Goals as goal

pub returns-then-key-gt-BLOCK : goal.returns-then-key-gt-BLOCK
returns-then-key-gt-BLOCK c =
    let a = c.args in
    c.nested.ensures ∙ hmac-is a.key.now _ a.text.now (c.hash-hashed.ensures ∙ sym (key-hashed a.key.now (omega arith)))

pub returns : goal.returns
returns c =
    let a = c.args in
    c.nested-2.ensures ∙ hmac-is a.key.now _ a.text.now (sym (key-as-it-is a.key.now (omega arith)))
