-- The first byte, by the form of the header: RFC 9000 section 17.2, and RFC 9001 section 5.4.1 for what is masked of it.
use Rattle.std.specs.Prelude.{ℕ, ◌/◌, ◌%◌, ◌^◌, List, ◌&&◌, leb, eqb, length, get_or}
use Rattle.std.specs.Int.Bits.{bit_xor}
use Rattle.octets.specs.Outcome.{Outcome, unless, ◌>>◌}
use Rattle.header_forms.specs.Rules.{Rules}

pub record Form : Type 0 where
  -- the form bit and the fixed bit, as a number of two bits
  pub top_bits : ℕ
  -- how many low bits are masked
  pub masked_bits : ℕ
  -- how many low bits stand below the two reserved ones
  pub below_reserved : ℕ

-- 0x80 form, 0x40 fixed, 0x30 type, 0x0c reserved, 0x03 number length; the last four bits are masked
abbrev pub long_form : Form
long_form = record { top_bits = 3; masked_bits = 4; below_reserved = 2 }

-- a byte of the mask on the masked bits of a first byte
unfoldable pub masked_first : Form → (mask first : ℕ) → ℕ
masked_first form mask first = bit_xor first (mask % 2 ^ form.masked_bits)

-- the two reserved bits of a first byte
unfoldable pub reserved_bits : Form → (first : ℕ) → ℕ
reserved_bits form first = first / 2 ^ form.below_reserved % 4

-- a datagram of a size that may come, whose first byte has the form's two bits
unfoldable pub formed : Rules → Form → List ℕ → Outcome (Unit {0})
formed rules form d = do
  unless 1 (leb 1 (length d) && leb (length d) rules.limit)
  unless 2 (eqb (get_or d 0 0 / 64) form.top_bits)
