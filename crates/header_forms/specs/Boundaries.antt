-- The lines of the boundary table that hold these definitions to the papers; a packet that is opened as it was sealed would not.
use Rattle.std.specs.Prelude.{◌≡◌, [], ◌∷◌, replicate}
use Rattle.octets.specs.Outcome.{refused, given}
use Rattle.header_forms.specs.Rules.{in_force}
use Rattle.header_forms.specs.Forms.{long_form, masked_first, reserved_bits, formed}

pub record Table : Type 0 where
  -- four bits are masked: form, fixed bit and type stay
  pub four-bits : masked_first long_form 0xff 0xc0 ≡ 0xcf
  -- the reserved bits are 0x0c: all of them, and no others
  pub reserved : reserved_bits long_form 0x0c ≡ 3
  pub not-reserved : reserved_bits long_form 0xf3 ≡ 0
  -- form bit and fixed bit
  pub both_bits : formed in_force long_form (0xc0 ∷ []) ≡ given tt
  pub no-form-bit : formed in_force long_form (0x7f ∷ []) ≡ refused 2
  pub no-fixed-bit : formed in_force long_form (0xbf ∷ []) ≡ refused 2
  -- 1,500 bytes, and one more; none
  pub largest : formed in_force long_form (replicate 1500 0xc0) ≡ given tt
  pub too_large : formed in_force long_form (replicate 1501 0xc0) ≡ refused 1
  pub empty : formed in_force long_form [] ≡ refused 1
