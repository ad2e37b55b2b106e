-- Two words at once.
use native.Mathlib.Omega.{arith}
use Rattle.gcm_field.proofs.Words.{add_words}
use Rattle.gcm_field.proofs.add.Goals as goal

pub returns : goal.returns
returns c =
    let args = c.args in
    add_words args.a.hi args.a.lo args.b.hi args.b.lo (omega arith) (omega arith)
