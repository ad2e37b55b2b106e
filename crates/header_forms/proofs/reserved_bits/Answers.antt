-- What stands below them is divided away.
use Prim.Native.Nat.{ℕ, ◌/◌, ◌%◌}
use mathlib.Core.Path.{ap}
use Rattle.header_forms.specs.Forms.{reserved_bits}
use Rattle.header_forms.proofs.reserved_bits.Goals as goal

pub returns : goal.returns
unfolding reserved_bits
returns c = ap (λ (n : ℕ). c.args.first / n % 4) c.values_below_reserved.ensures
