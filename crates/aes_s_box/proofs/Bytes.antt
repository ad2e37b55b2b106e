-- Each entry of the S-box is a byte, and so is each product with a byte.
use Prim.Native.Nat.{ℕ, zero, suc, ◌+◌, ◌*◌, ◌/◌, ◌%◌, ◌^◌, ◌≤◌, ◌<◌}
use native.Mathlib.Nat.{mod-lt, pow-suc, mul-le-mul_right}
use native.Mathlib.Omega.{arith}
use lib.Bits.{bit_xor, xor_lt}
use lib.Dec.{lit<}
use Rattle.aes_s_box.specs.Field.{x_times, sums, ◌•◌, inverse}
use Rattle.aes_s_box.specs.Box.{spelled, bit, affine_bit, s_box}

spelled-lt : (n : ℕ) (f : ℕ → ℕ) → ((i : ℕ) → f i < 2) → spelled n f < 2 ^ n
unfolding spelled
spelled-lt zero f h = lit< tt
spelled-lt (suc n) f h =
    let one : f n ≤ 1 = omega (arith, h n) in
    omega (arith, spelled-lt n f h, pow-suc 2 n, mul-le-mul_right (2 ^ n) one)

-- one digit more
more : (a n : ℕ) → a < 2 → bit_xor a (n % 2) < 2
more a n h = xor_lt 1 a (n % 2) h (mod-lt n (lit< tt))

affine_bit-lt : (b i : ℕ) → affine_bit b i < 2
affine_bit-lt b i =
    let on : ℕ → ℕ = λ k. b / 2 ^ ((i + k) % 8) in
    more _ (0x63 / 2 ^ i) (more _ (on 7) (more _ (on 6) (more _ (on 5) (more (bit b i) (on 4) (mod-lt (b / 2 ^ i) (lit< tt))))))

pub s_box-lt : (b : ℕ) → s_box b < 256
unfolding s_box
s_box-lt b = spelled-lt 8 (affine_bit (inverse b)) (affine_bit-lt (inverse b))

-- ---- products
x-times-lt : (b : ℕ) → b < 256 → x_times b < 256
unfolding x_times
x-times-lt b h = xor_lt 8 (b / 128 * 0x1b) (b * 2 % 256) (omega arith) (mod-lt (b * 2) (lit< tt))

sums_lt : (n a b : ℕ) → b < 256 → sums n a b < 256
unfolding sums
sums_lt zero a b h = lit< tt
sums_lt (suc n) a b h =
    let digit : a % 2 ≤ 1 = omega arith in
    let first : a % 2 * b < 256 = omega (arith, mul-le-mul_right b digit) in
    xor_lt 8 (a % 2 * b) (sums n (a / 2) (x_times b)) first (sums_lt n (a / 2) (x_times b) (x-times-lt b h))

pub times-lt : (a b : ℕ) → b < 256 → (a • b) < 256
times-lt a b h = sums_lt 8 a b h
