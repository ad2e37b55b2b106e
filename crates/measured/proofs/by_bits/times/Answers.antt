-- The bits of the first eight bytes, and then those of the last.
use mathlib.Core.Path.{ap₂, ◌∙◌}
use Prim.Native.Nat.{ℕ}
use native.Mathlib.Omega.{arith}
use Rattle.gcm_field.specs.Field.{steps, num}
use Rattle.measured.proofs.ByBits.{both_words}
use Rattle.measured.proofs.by_bits.times.Goals as goal

pub returns : goal.returns
returns c =
    let a = c.args in
    let first = c.through.ensures in
    c.through-last.ensures.0 ∙ ap₂ (λ (z v : ℕ). steps 64 a.x.lo z v) first.0 first.1 ∙ both_words a.x.hi a.x.lo (num a.h) (omega arith)
