-- {02} and {03} in the field.
use Prim.Native.Nat.{ℕ}
use mathlib.Core.Path.{◌≡◌}
use native.Mathlib.Nat.{zero-mul, one-mul}
use lib.Bits.{bit_xor, xor_zero_r}
use Rattle.aes_s_box.specs.Field.{x_times, sums, ◌•◌}

pub two : (b : ℕ) → 2 • b ≡ x_times b
unfolding sums
two b = simp (zero-mul, one-mul, xor_zero_r)

pub three : (b : ℕ) → 3 • b ≡ bit_xor b (x_times b)
unfolding sums
three b = simp (zero-mul, one-mul, xor_zero_r)
