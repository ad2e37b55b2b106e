-- The list is fair by computing, and what it yields follows from demand 3.
use Prim.Native.Nat.{ℕ, ◌+◌}
use mathlib.Core.Path.{◌≡◌, refl}
use mathlib.Core.List.{[], ◌∷◌}
use native.Mathlib.Omega.{arith}
use lib.Dec.{T, leb, ltb, lit<, lit≤}
use lib.ListN.{length, length-append}
use Rattle.octets.specs.Outcome.{given}
use Rattle.octets.specs.Octets.{bytes, number, xor, same}
use Rattle.octets.proofs.Numbers.{bytes-length}
use Rattle.octets.proofs.Xor.{xor-length, xor-undone}
use Rattle.versions.specs.Versions.{version1, draft2, known, version, type_for, level_of}
use Rattle.integers.specs.Integer.{integer}
use Rattle.numbers_shortening.specs.Shortening.{nothing, coverable, ahead, gap, shortened}
use Rattle.numbers_recovery.specs.Recovery.{decoded}
use Rattle.header_fields.specs.Fields.{id_at, integer_at, field_at, rest_at}
use Rattle.header_forms.specs.Rules.{in_force}
use Rattle.header_forms.specs.Forms.{masked_first, reserved_bits, formed}
use Rattle.header_long.specs.LongHeader.{only_level, version_of, judged, long}
use Rattle.header_reading.specs.PacketHeader.{token_at, header}
use Rattle.integers_writing.specs.Written.{two, smallest}
use Rattle.header_writing.specs.Written.{long_fields, packet_fields, first_byte}
use Rattle.protection.specs.Suite.{Laws}
use Rattle.protection.specs.Protection.{nonce, on_first, on_number, sample_of}
use Rattle.protection.specs.Clear.{body_with, body_of, protected, revealed, decrypted, unprotected}
use Rattle.packets.specs.Packet.{sealed, opened}
use Rattle.receiver.specs.Receiver.{Good, Fair}
use Rattle.receiver.specs.Example.{toy, keys, plain_of, sealed_of, parcel_of, comes, empty, damaged, coming, opens, refuses, lent, Example}
use Rattle.receiver.proofs.Receiver.{demand3}

pub laws : Laws toy
unfolding toy
laws = record {
  stream-length = λ key nonce text. xor-length text nonce;
  stream-twice = λ key nonce text. xor-undone text nonce;
  tag-length = λ key nonce associated cipher. bytes-length 16 (number key + number nonce + number associated + number cipher);
}

-- packet m is good where e is expected, if it is sealed, in 33 bytes, and its number is near
good : (e m : ℕ) → sealed toy in_force keys nothing (plain_of m) 33 ≡ given (sealed_of m) → length (sealed_of m) ≡ 33 → T (ltb e (m + 128)) → T (leb m (e + 128))
    → Good toy keys e (parcel_of m) lent
unfolding parcel_of plain_of
good e m made sized below above = record {
  made = made;
  fits = omega (arith, length-append (sealed_of m) (0xff ∷ 0xff ∷ []));
  enough = omega arith;
  near = record { below = lit< below; above = lit≤ above };
}

fair : Fair toy keys 0 coming
unfolding toy keys plain_of sealed_of parcel_of comes empty damaged coming
    bytes number xor version1 draft2 known version type_for level_of integer coverable ahead gap shortened decoded
    formed id_at only_level version_of judged long integer_at field_at rest_at token_at header two smallest long_fields packet_fields first_byte
    nonce masked_first reserved_bits on_first on_number sample_of same body_with body_of protected sealed revealed decrypted unprotected opened
fair = (good 0 0 refl refl tt tt, (refl, (good 1 2 refl refl tt tt, (good 3 2 refl refl tt tt, (refl, (good 3 4 refl refl tt tt, (good 5 3 refl refl tt tt, tt)))))))

-- what is owed, as bytes
pub example : Example
unfolding keys plain_of sealed_of parcel_of comes empty damaged coming opens refuses toy bytes number xor version1 version type_for two smallest long_fields packet_fields first_byte nonce masked_first on_first on_number sample_of body_with body_of protected
example = let r = demand3 toy laws keys 0 coming (lit≤ tt) fair in record { each = r.each; last = r.last }
