use mathlib.Core.Path.{◌≡◌, sym, ap, ◌∙◌}
use native.Mathlib.Omega.{arith}
use lib.ListN.{length, length-set}
use lib.Seq.{paste}
use Rattle.octets.specs.Octets.{xor}
use Rattle.octets.proofs.Xor.{xor-length, xor-at}
use Rattle.octets.proofs.Buffers.{lay-turn, lay-end}
use Rattle.octets.proofs.copy_masked.Goals as goal

pub loop-i-preserved : goal.loop-i-preserved
loop-i-preserved c =
    let l = c.loop-i in
    let a = c.args in
    let source = a.source.now in
    let mask = a.mask.now in
    let len = xor-length source mask in (
      omega arith,
      simp length-set l.invariant.1,
      lay-turn l.buffer a.buffer.now a.at (xor source mask) l.i _ (omega arith) (omega arith) l.invariant.2
          (sym (xor-at source mask l.i (omega arith) (omega arith))),
    )

pub returns : goal.returns
returns c =
    let l = c.loop-i in
    let a = c.args in
    let s = xor a.source.now a.mask.now in
    let all : l.i ≡ length s = omega (arith, xor-length a.source.now a.mask.now) in
    l.invariant.2 ∙ ap (paste a.buffer.now a.at s) all ∙ lay-end a.buffer.now a.at s
