-- The steps for the bits that are left, from Z and V as they are, give what all 64 gave at the start.
use mathlib.Core.Path.{◌≡◌}
use Rattle.gcm_field.specs.Field.{steps, num, nexts}
use Rattle.measured.proofs.by_bits.through.Given as goal

abbrev pub invariant-loop-n : goal.invariant-loop-n
invariant-loop-n l =
    (steps l.n l.w (num l.z) (num l.v) ≡ steps 64 l.w (num l.initial.z) (num l.initial.v)) × (nexts l.n (num l.v) ≡ nexts 64 (num l.initial.v))
