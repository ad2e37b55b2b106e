use Prim.Native.Nat.{ℕ}
use mathlib.Core.Path.{◌≡◌, refl, ap, ◌∙◌}
use native.Mathlib.Omega.{arith}
use lib.Bits.{bit_xor}
use Rattle.gcm_field.specs.Field.{steps, num, nexts}
use Rattle.measured.proofs.ByBits.{steps-turn, nexts-turn}
use Rattle.measured.proofs.by_bits.through.Goals as goal

pub loop-n-init : goal.loop-n-init
loop-n-init c = (refl, refl)

pub loop-n-preserved : goal.loop-n-preserved
loop-n-preserved c =
    let l = c.loop-n in
    let left = c.loop-n-test.true in
    let added = c.add-z.ensures ∙ ap (bit_xor (num l.z)) c.chosen.ensures in
    (steps-turn l.n _ _ _ _ _ left added c.shifted-v.ensures ∙ l.invariant.0, nexts-turn l.n _ _ left c.shifted-v.ensures ∙ l.invariant.1)

pub returns : goal.returns
unfolding steps nexts
returns c =
    let l = c.loop-n in
    let w = c.args.w in
    let none : 0 ≡ l.n = omega arith in
    (ap (λ (m : ℕ). steps m w (num l.z) (num l.v)) none ∙ l.invariant.0, ap (λ (m : ℕ). nexts m (num l.v)) none ∙ l.invariant.1)
