-- The product by runs of 16 bits.
use Rattle.std.specs.Prelude.{ℕ, zero, suc, ◌*◌, ◌/◌, ◌^◌}
use Rattle.std.specs.Int.Bits.{bit_xor}
use Rattle.gcm_field.specs.Field.{nexts, steps}

-- what the steps for the m low bits of each of w's p lowest runs of 16 bits add to Z, V being that of the first of these runs
unfoldable pub runs : ℕ → ℕ → ℕ → ℕ → ℕ
runs m zero w v = 0
runs m (suc p) w v = bit_xor (steps m (w / 2 ^ (16 * p)) 0 v) (runs m p w (nexts 16 v))
