use mathlib.Core.Path.{refl}
use native.Mathlib.Omega.{arith}
use lib.ListN.{length-set}
use Rattle.octets.proofs.Buffers.{lay-turn}
use Rattle.octets.proofs.copy.Goals as goal

pub loop-i-preserved : goal.loop-i-preserved
loop-i-preserved c =
    let l = c.loop-i in
    let a = c.args in (
      omega arith,
      simp length-set l.invariant.1,
      lay-turn l.buffer a.buffer.now a.at a.source.now l.i _ (omega arith) (omega arith) l.invariant.2 refl,
    )
