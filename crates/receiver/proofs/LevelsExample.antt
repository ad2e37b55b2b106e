-- The list of all levels is fair by computing, and what it yields follows from demand 3 of all levels.
use Prim.Native.Nat.{ℕ, ◌+◌, ◌≤◌}
use mathlib.Core.Path.{◌≡◌, refl, ap}
use mathlib.Core.List.{[]}
use native.Mathlib.Omega.{arith}
use lib.Dec.{T, leb, ltb, lit<, lit≤}
use lib.ListN.{length, length-append}
use Rattle.octets.specs.Outcome.{given}
use Rattle.octets.specs.Octets.{bytes, number, xor, same}
use Rattle.versions.specs.Versions.{version1, draft2, known, version, type_for, level_of}
use Rattle.integers.specs.Integer.{integer}
use Rattle.numbers_shortening.specs.Shortening.{nothing, coverable, ahead, gap, shortened}
use Rattle.numbers_recovery.specs.Recovery.{decoded}
use Rattle.header_fields.specs.Fields.{id_at, integer_at, field_at, rest_at}
use Rattle.header_forms.specs.Rules.{in_force}
use Rattle.header_forms.specs.Forms.{masked_first, reserved_bits, formed}
use Rattle.header_long.specs.LongHeader.{only_level, version_of, judged, long}
use Rattle.header_reading.specs.PacketHeader.{token_at, header}
use Rattle.integers_writing.specs.Written.{two, smallest}
use Rattle.header_writing.specs.Written.{long_fields, packet_fields, first_byte}
use Rattle.protection.specs.Protection.{nonce, on_first, on_number, sample_of}
use Rattle.protection.specs.Clear.{body_with, body_of, protected, revealed, decrypted, unprotected}
use Rattle.packets.specs.Packet.{sealed, opened}
use Rattle.receivers.specs.Receivers.{Fair}
use Rattle.receivers.specs.Openings.{expected_only, Standing}
use Rattle.receivers.specs.Spaces.{Each}
use Rattle.receivers.proofs.Openings.{expected-counts}
use Rattle.receivers.proofs.Spaces.{spaces-apart}
use Rattle.receiver.specs.Receiver.{Good}
use Rattle.receiver.specs.Levels.{Ring, LeveledArrival, space_of, numbering, promise, terms}
use Rattle.receiver.specs.Example.{toy, keys, lent}
use Rattle.receiver.specs.LevelsExample.{ring, plain_at, sealed_at, parcel_at, comes_at, strays, mixed, start, opens_at, LevelsExample}
use Rattle.receiver.proofs.Example.{laws}
use Rattle.receiver.proofs.Levels.{all-levels}

-- packet m of a level is good where e is expected, if it is sealed, in at most 33 bytes, and its number is near
good : (level e m : ℕ) → sealed toy in_force (ring level) nothing (plain_at level m) 33 ≡ given (sealed_at level m) → T (leb (length (sealed_at level m)) 33) → T (ltb e (m + 128)) → T (leb m (e + 128))
    → Good toy (ring level) e (parcel_at level m) lent
unfolding parcel_at plain_at
good level e m made sized below above =
    let small : length (sealed_at level m) ≤ 33 = lit≤ sized in
    record {
      made = made;
      fits = omega (arith, length-append (sealed_at level m) []);
      enough = omega arith;
      near = record { below = lit< below; above = lit≤ above };
    }

fair : Fair promise (terms toy).FairOne start mixed
unfolding toy keys ring plain_at sealed_at parcel_at comes_at strays mixed start
    bytes number xor version1 draft2 known version type_for level_of integer coverable ahead gap shortened decoded
    formed id_at only_level version_of judged long integer_at field_at rest_at token_at header two smallest long_fields packet_fields first_byte
    nonce masked_first reserved_bits on_first on_number sample_of same body_with body_of protected sealed revealed decrypted unprotected opened
fair = (good 0 0 0 refl tt tt tt, (good 2 0 0 refl tt tt tt, (refl, (good 1 0 5 refl tt tt tt, (good 0 1 1 refl tt tt tt, tt)))))

-- at the start nothing is expected in any space
nothing-expected : (a : LeveledArrival) → numbering.expected_by start.kept a ≡ 0
unfolding start
nothing-expected a = ((spaces-apart (λ (b : LeveledArrival). space_of b.level) expected_only).counted expected-counts).starts a

-- what is owed, as bytes
pub levels-example : LevelsExample
unfolding toy keys ring plain_at sealed_at parcel_at comes_at strays mixed start opens_at bytes number xor version1 version type_for two smallest long_fields packet_fields first_byte nonce masked_first on_first on_number sample_of body_with body_of protected
levels-example =
    let r = all-levels toy laws start mixed (λ a. omega (arith, nothing-expected a)) fair in
    record { each = r.each; last = ap (λ (s : Standing Ring (Each ℕ)). s.kept) r.last }
