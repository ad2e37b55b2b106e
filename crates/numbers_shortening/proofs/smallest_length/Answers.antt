-- The bits of the gap are the word's less its leading zeros.
use Prim.Native.Nat.{ℕ, ◌+◌, ◌/◌}
use mathlib.Core.Path.{sym, ap, ◌∙◌}
use native.Mathlib.Omega.{arith}
use Rattle.octets.specs.Outcome.{given}
use Rattle.octets.proofs.Refusals.{passed-on}
use Rattle.numbers_shortening.proofs.Shortening.{smallest-refused, smallest-given, gap-sized, bit-length}
use Rattle.numbers_shortening.proofs.smallest_length.Goals as goal

pub returns-in_err-distance : goal.returns-in_err-distance
returns-in_err-distance c =
    record { answer = passed-on _ _ _ c.from_residual.ensures.1 ∙ sym (smallest-refused _ _ c.in_err-distance.ensures) }

pub returns : goal.returns
returns c =
    let is = c.in_ok-distance.ensures in
    let sized = gap-sized _ _ is in
    let bits = bit-length c.in_ok-distance.distance sized.0 (omega (arith, sized.1)) in
    record { answer = ap (λ (b : ℕ). given ((b + 1 + 7) / 8)) (sym bits) ∙ sym (smallest-given _ _ is) }
