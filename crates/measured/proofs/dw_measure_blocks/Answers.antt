use Prim.Native.Nat.{◌+◌, ◌-◌, ◌*◌, ◌≤◌, ◌<◌}
use mathlib.Core.Path.{◌≡◌, sym, ap, ◌∙◌}
use native.Mathlib.Omega.{arith}
use borrow.Author.Rules.{rules}
use lib.ListN.{length}
use Rattle.octets.specs.Octets.{laid}
use Rattle.measured.proofs.Blocks.{onward, block_read, blocks-turn, blocks_end}
use Rattle.measured.proofs.dw_measure_blocks.Goals as goal

pub loop-k-preserved : goal.loop-k-preserved
loop-k-preserved c =
    let l = c.loop-k in
    let w = c.args.schedule.now in
    let inside : 16 * l.k + 16 ≤ length l.buffer = omega (arith, c.loop-k-test.true, l.invariant.0) in
    let on : 16 * (l.k + 1) ≡ 16 * l.k + 16 = omega arith in
    let block = block_read l.buffer _ (16 * l.k) inside c.copy.ensures in
    let written = c.copy-in-loop-k.ensures ∙ ap (laid l.buffer (16 * l.k)) c.encrypt_by-cipher.ensures in
    (search rules, ap (onward w c.copy-in-loop-k.new.buffer) on ∙ blocks-turn w l.buffer _ _ (16 * l.k) inside block written ∙ l.invariant.1)

pub returns : goal.returns
returns c =
    let l = c.loop-k in
    let few : length l.buffer - 16 * l.k < 16 = omega (arith, c.loop-k-test.false, l.invariant.0) in
    sym (blocks_end _ l.buffer (16 * l.k) few) ∙ l.invariant.1
