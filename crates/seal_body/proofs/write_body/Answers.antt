-- The ciphertext, and behind it the tag.
use native.Mathlib.Omega.{arith}
use Rattle.seal_body.proofs.Bodies.{body-laid}
use Rattle.seal_body.proofs.write_body.Goals as goal

pub returns : goal.returns
returns c =
    let a = c.args in
    body-laid a.key.now a.nonce.now a.payload.now a.buffer.now _ _ _ _ a.at (omega arith)
    c.expand_key-schedule.ensures c.crypt.ensures c.tag_over-tag.ensures c.copy.ensures
