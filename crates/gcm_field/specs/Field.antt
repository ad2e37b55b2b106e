-- The product of blocks, SP 800-38D section 6.3. A block is the number below 2 ^ 128 whose binary digits are its bits, the first bit highest.
use Rattle.std.specs.Prelude.{ℕ, zero, suc, ◌+◌, ◌*◌, ◌/◌, ◌%◌, ◌^◌}
use Rattle.std.specs.Int.Bits.{bit_xor}
use Rattle.gcm_field.specs.declared.Block.{Block}

infixl 70 ◌•◌
-- R: 11100001, then 120 zeros
abbrev pub R : ℕ
R = 0xe1 * 2 ^ 120

-- the digit of x of weight 2 ^ n: the paper's bit x_i is `bit x (127 - i)`
unfoldable pub bit : ℕ → ℕ → ℕ
bit x n = x / 2 ^ n % 2

-- V_(i+1) of V_i: shifted right by one bit, and R added where a 1 is shifted out
unfoldable pub next : ℕ → ℕ
next v = bit_xor (v / 2) (v % 2 * R)

-- V after n steps
unfoldable pub nexts : ℕ → ℕ → ℕ
nexts zero v = v
nexts (suc n) v = nexts n (next v)

-- Z after the n steps that are left: each adds V to Z where its bit of X is 1, and V goes on
unfoldable pub steps : ℕ → ℕ → ℕ → ℕ → ℕ
steps zero x z v = z
steps (suc n) x z v = steps n x (bit_xor z (bit x n * v)) (next v)

-- X • Y
unfoldable pub ◌•◌ : ℕ → ℕ → ℕ
x • y = steps 128 x 0 y

-- ---- in the code
-- a block's number
abbrev pub num : Block → ℕ
num b = b.hi * 2 ^ 64 + b.lo
