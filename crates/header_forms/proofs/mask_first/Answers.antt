-- The masked bits are the remainder by how many values they have.
use Prim.Native.Nat.{ℕ, ◌%◌}
use mathlib.Core.Path.{ap}
use lib.Bits.{bit_xor}
use Rattle.header_forms.specs.Forms.{masked_first}
use Rattle.header_forms.proofs.mask_first.Goals as goal

pub returns : goal.returns
unfolding masked_first
returns c =
    ap (λ (n : ℕ). bit_xor c.args.first (c.args.mask % n)) c.masked_values.ensures
