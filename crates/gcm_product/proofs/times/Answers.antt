use Prim.Native.Nat.{ℕ, ◌+◌, ◌*◌, ◌/◌, ◌^◌}
use mathlib.Core.Path.{◌≡◌, ap, ap₂, ◌∙◌, subst}
use native.Mathlib.Omega.{arith}
use lib.Bits.{bit_xor}
use Rattle.gcm_field.proofs.Linear.{nexts-none}
use Rattle.gcm_field.specs.Field.{num}
use Rattle.gcm_product.specs.Runs.{runs}
use Rattle.gcm_table.specs.Table.{key_of}
use Rattle.gcm_product.proofs.Runs.{Partly, product-start, product-turn, product-end}
use Rattle.gcm_product.proofs.times.Goals as goal

pub loop-n-init : goal.loop-n-init
loop-n-init c = product-start (key_of c.args.table.now.entries) c.args.x.hi c.args.x.lo

pub loop-n-preserved : goal.loop-n-preserved
loop-n-preserved c =
    let l = c.loop-n in
    let x = c.args.x in
    let h = key_of c.args.table.now.entries in
    let n : ℕ = 4 * l.n in
    let on : n + 4 ≡ 4 * (l.n + 1) = omega arith in
    let high = c.four-high.ensures ∙ ap (runs 4 4 (x.hi / 2 ^ n)) (nexts-none h) in
    let sum = c.add.ensures ∙ ap₂ bit_xor high c.four-low.ensures in
    let turn = c.add-z.ensures ∙ ap₂ bit_xor c.shifted_by_four.ensures sum ∙ product-turn h x.hi x.lo n (num l.z) l.invariant in
    subst (λ (m : ℕ). Partly h x.hi x.lo m (num c.add-z.result)) on turn

pub returns : goal.returns
returns c =
    let x = c.args.x in
    let h = key_of c.args.table.now.entries in
    let l = c.loop-n in
    let all : 4 * l.n ≡ 16 = omega arith in
    product-end h x.hi x.lo (omega arith) (num l.z) (subst (λ (n : ℕ). Partly h x.hi x.lo n (num l.z)) all l.invariant)
