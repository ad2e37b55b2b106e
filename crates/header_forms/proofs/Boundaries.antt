-- Each line of the table, by computing it.
use mathlib.Core.Path.{refl}
use Rattle.header_forms.specs.Forms.{masked_first, reserved_bits, formed}
use Rattle.header_forms.specs.Boundaries.{Table}

pub boundaries : Table
unfolding masked_first reserved_bits formed
boundaries = record {
  four-bits = refl;
  reserved = refl;
  not-reserved = refl;
  both_bits = refl;
  no-form-bit = refl;
  no-fixed-bit = refl;
  largest = refl;
  too_large = refl;
  empty = refl;
}
