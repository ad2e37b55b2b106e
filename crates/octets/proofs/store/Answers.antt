use mathlib.Core.Path.{◌≡◌, sym, ap, ◌∙◌}
use native.Mathlib.Omega.{arith}
use lib.ListN.{length, length-set}
use lib.Seq.{paste}
use Rattle.octets.specs.Octets.{bytes}
use Rattle.octets.proofs.Numbers.{bytes-length, byte-is}
use Rattle.octets.proofs.Buffers.{lay-turn, lay-end}
use Rattle.octets.proofs.store.Goals as goal

pub loop-i-preserved : goal.loop-i-preserved
loop-i-preserved c =
    let l = c.loop-i in
    let a = c.args in
    let s = bytes a.width a.value in
    let len = bytes-length a.width a.value in (
      omega arith,
      simp length-set l.invariant.1,
      lay-turn l.buffer a.buffer.now a.at s l.i _ (omega arith) (omega arith) l.invariant.2 (sym (byte-is a.width l.i a.value (omega arith))),
    )

pub returns : goal.returns
returns c =
    let l = c.loop-i in
    let a = c.args in
    let s = bytes a.width a.value in
    let all : l.i ≡ length s = omega (arith, bytes-length a.width a.value) in
    l.invariant.2 ∙ ap (paste a.buffer.now a.at s) all ∙ lay-end a.buffer.now a.at s
