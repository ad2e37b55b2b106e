-- FIPS 197 section 5.1.1: the S-box.
use Rattle.std.specs.Prelude.{ℕ, zero, suc, ◌+◌, ◌*◌, ◌/◌, ◌%◌, ◌^◌, ◌<◌, ◌≡◌, List, get_or}
use Rattle.aes_s_box.specs.Field.{◌⊕◌, inverse}

abbrev pub bit : ℕ → ℕ → ℕ
bit b i = b / 2 ^ i % 2

-- the number whose n low bits are given
unfoldable pub spelled : ℕ → (ℕ → ℕ) → ℕ
spelled zero f = 0
spelled (suc n) f = spelled n f + f n * 2 ^ n

-- a bit of the affine step, with the constant {63}
abbrev pub affine_bit : ℕ → ℕ → ℕ
affine_bit b i = bit b i ⊕ bit b ((i + 4) % 8) ⊕ bit b ((i + 5) % 8) ⊕ bit b ((i + 6) % 8) ⊕ bit b ((i + 7) % 8) ⊕ bit 0x63 i

-- section 5.1.1: the inverse in the field, and then the affine step
unfoldable pub s_box : ℕ → ℕ
s_box b = spelled 8 (affine_bit (inverse b))

-- a table of the S-box's bytes
pub record Box (table : List ℕ) : Type 0 where
  pub rule : (b : ℕ) → b < 256 → get_or table b 0 ≡ s_box b
