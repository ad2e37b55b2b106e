-- The boundary table, by computing each line.
use mathlib.Core.Path.{refl}
use Rattle.octets.specs.Octets.{bytes, number, xor}
use Rattle.octets.specs.Text.{ascii}
use Rattle.hkdf.specs.Hkdf.{tls13, info}
use Rattle.integers.specs.Integer.{integer}
use Rattle.numbers_shortening.specs.Shortening.{coverable, ahead, gap, halvings, smallest_length, shortened}
use Rattle.numbers_recovery.specs.Recovery.{decoded, recovered}
use Rattle.header_forms.specs.Forms.{masked_first}
use Rattle.protection.specs.Protection.{on_first, on_number, masked}
use Rattle.receiver.specs.Boundaries.{Table}

pub boundaries : Table
unfolding bytes number xor ascii tls13 info masked_first on_first on_number masked integer coverable ahead gap halvings smallest_length shortened decoded recovered
boundaries = record {
  two_bytes = refl;
  two-where-one-would-do = refl;
  info-client-in = refl;
  info-quicv2-key = refl;
  gap-127 = refl;
  gap-128 = refl;
  gap-largest = refl;
  gap-uncovered = refl;
  gap-127-in-one = refl;
  gap-128-not-in-one = refl;
  appendix-a3 = refl;
  upwards = refl;
  downwards = refl;
  at-0 = refl;
  at-2^62 = refl;
  below-2^62 = refl;
  server-header = refl;
  initial-space = refl;
  zero-rtt-space = refl;
  handshake-space = refl;
}
