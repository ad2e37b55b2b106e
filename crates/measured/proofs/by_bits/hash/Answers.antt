use Prim.Native.Nat.{ℕ, ◌≤◌, ◌<◌}
use mathlib.Core.Path.{sym, ap, ◌∙◌}
use native.Mathlib.Omega.{arith}
use lib.Bits.{bit_xor}
use lib.ListN.{length}
use lib.Seq.{take_all}
use Rattle.std.specs.Slice.Iter.{chunks_exact_rest, chunks_exact_size}
use Rattle.octets.specs.Octets.{number}
use Rattle.gcm_field.specs.Field.{◌•◌, num}
use Rattle.measured.proofs.ByBits.{on_from, hash-start, hash-turn, hash-end}
use Rattle.measured.proofs.by_bits.hash.Goals as goal

pub loop-block-init : goal.loop-block-init
loop-block-init c =
    let h = num c.args.h in
    let blocks = c.chunks_exact-block-items.ensures in
    let same = c.into_iter-block-iterator.ensures.into_iter_gives in (
      ap (λ s. chunks_exact_size s) same ∙ blocks.size,
      ap (λ s. on_from h 0 (chunks_exact_rest s)) same ∙ ap (on_from h 0) blocks.rest ∙ hash-start h c.args.source.now,
    )

pub loop-block-preserved : goal.loop-block-preserved
loop-block-preserved c =
    let l = c.loop-block in
    let h = num c.args.h in
    let block = c.in-Some.block.now in
    let steps = c.in-Some.ensures.steps in
    let size = steps.1.1 ∙ l.invariant.0 in
    let all : length block ≤ 16 = omega (arith, size) in
    let sum = c.add.ensures ∙ ap (bit_xor (num l.y)) (c.load_block.ensures ∙ ap number (take_all 16 block all)) in (
      steps.0 ∙ l.invariant.0,
      hash-turn h (num l.y) _ _ block _ steps.1.0 size (c.times-y.ensures ∙ ap (λ (x : ℕ). x • h) sum) ∙ l.invariant.1,
    )

pub returns : goal.returns
returns c =
    let l = c.loop-block in
    let left = chunks_exact_rest l.block-iterator in
    let few : length left < 16 = omega (arith, c.in-None.ensures.steps.1.0, l.invariant.0) in
    sym (hash-end (num c.args.h) (num l.y) left few) ∙ l.invariant.1
