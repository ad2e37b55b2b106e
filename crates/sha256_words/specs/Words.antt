-- FIPS 180-4 sections 3.2 and 4.1.2: operations and functions on words. A word is a number below 2 ^ 32.
use Rattle.std.specs.Prelude.{ℕ, ◌+◌, ◌-◌, ◌*◌, ◌/◌, ◌%◌, ◌^◌}
use Rattle.std.specs.Int.Bits.{bit_and, bit_xor}

infixl 65 ◌⊞◌
-- ---- 3.2: operations on words
-- addition modulo 2 ^ 32
abbrev pub ◌⊞◌ : ℕ → ℕ → ℕ
x ⊞ y = (x + y) % 2 ^ 32

abbrev pub complement : ℕ → ℕ
complement x = 2 ^ 32 - 1 - x

abbrev pub SHR : ℕ → ℕ → ℕ
SHR n x = x / 2 ^ n

-- the low n bits go to the top
unfoldable pub ROTR : ℕ → ℕ → ℕ
ROTR n x = x % 2 ^ n * 2 ^ (32 - n) + x / 2 ^ n

-- ---- 4.1.2: functions
abbrev pub Ch : ℕ → ℕ → ℕ → ℕ
Ch x y z = bit_xor (bit_and x y) (bit_and (complement x) z)

abbrev pub Maj : ℕ → ℕ → ℕ → ℕ
Maj x y z = bit_xor (bit_xor (bit_and x y) (bit_and x z)) (bit_and y z)

abbrev pub Σ₀ : ℕ → ℕ
Σ₀ x = bit_xor (bit_xor (ROTR 2 x) (ROTR 13 x)) (ROTR 22 x)

abbrev pub Σ₁ : ℕ → ℕ
Σ₁ x = bit_xor (bit_xor (ROTR 6 x) (ROTR 11 x)) (ROTR 25 x)

abbrev pub σ₀ : ℕ → ℕ
σ₀ x = bit_xor (bit_xor (ROTR 7 x) (ROTR 18 x)) (SHR 3 x)

abbrev pub σ₁ : ℕ → ℕ
σ₁ x = bit_xor (bit_xor (ROTR 17 x) (ROTR 19 x)) (SHR 10 x)
