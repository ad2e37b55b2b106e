-- The tail, the mark and the length are laid one after the other, and the zeros between them are there.
use native.Mathlib.Omega.{arith}
use Rattle.sha256_padding.proofs.Laying.{padded}
use Rattle.sha256_padding.proofs.pad.Goals as goal

pub returns : goal.returns
returns c =
    let long = c.padded_length-end in
    let a = c.args in (
      omega arith,
      padded a.tail.now _ _ _ _ a.total _ long.result c.requires.0 c.copy.ensures c.put.ensures c.store.ensures
          (omega arith) (omega arith) (omega arith) long.ensures,
    )
