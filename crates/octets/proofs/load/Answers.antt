use Prim.Native.Nat.{◌+◌, ◌*◌, ◌^◌, ◌≤◌, ◌<◌}
use mathlib.Core.Path.{◌≡◌, sym, ap, ◌∙◌}
use native.Mathlib.Omega.{arith}
use lib.ListN.{length, drop_of_length-le}
use lib.Pow.{pow_mono, pow-add}
use Rattle.octets.specs.Octets.{number}
use Rattle.octets.proofs.Numbers.{read_on, read-turn}
use Rattle.octets.proofs.load.Goals as goal

pub overflow_mul-value : goal.overflow_mul-value
overflow_mul-value c =
    let l = c.loop-byte in
    let small : 8 * l.byte-index ≤ 56 = omega arith in
    omega (arith, pow_mono small)

pub overflow_add-value : goal.overflow_add-value
overflow_add-value c =
    let l = c.loop-byte in
    let small : 8 * l.byte-index ≤ 56 = omega arith in
    omega (arith, pow_mono small, c.type_inv.source l.byte-index)

pub loop-byte-preserved : goal.loop-byte-preserved
loop-byte-preserved c =
    let l = c.loop-byte in
    let source = c.args.source.now in
    let byte = c.type_inv.source l.byte-index in
    let inside : l.byte-index < length source = omega arith in
    let power : 2 ^ (8 * (l.byte-index + 1)) ≡ 2 ^ (8 * l.byte-index) * 256 = let e : 8 * (l.byte-index + 1) ≡ 8 * l.byte-index + 8 = omega arith in rw e (pow-add 2 (8 * l.byte-index) 8) in (
      omega arith,
      omega (arith, power, byte),
      read-turn source l.byte-index l.value _ inside c.from.ensures ∙ l.invariant.2,
    )

pub returns : goal.returns
unfolding number
returns c =
    let l = c.loop-byte in
    let source = c.args.source.now in
    let end : length source ≤ l.byte-index = omega arith in
    sym (ap (read_on l.value) (drop_of_length-le source end)) ∙ l.invariant.2
