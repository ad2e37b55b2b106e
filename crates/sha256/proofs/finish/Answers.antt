-- The whole blocks, the tail with its padding, and the digest.
use mathlib.Core.Path.{refl, ◌∙◌}
use native.Mathlib.Omega.{arith}
use Rattle.sha256.proofs.Blocks.{finished-is}
use Rattle.sha256.proofs.finish.Goals as goal

pub returns : goal.returns
returns c =
    let a = c.args in
    let absorbs = c.absorb.ensures in
    c.digest_bytes.ensures ∙ finished-is a.h _ _ a.rest.now a.earlier _ _ absorbs c.close-value.ensures refl (omega arith)
