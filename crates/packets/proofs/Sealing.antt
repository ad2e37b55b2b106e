-- Sealing: what it comes to by what the tests show, in their order; how long a packet is; and what is known of one because the rules sealed it.
use Prim.Native.Nat.{ℕ, ◌+◌, ◌≤◌, ◌<◌}
use mathlib.Core.Path.{◌≡◌, sym}
use mathlib.Core.List.{List}
use mathlib.Core.Bool.{true, false, ◌&&◌}
use native.Mathlib.Omega.{arith}
use lib.Dec.{leb, ltb}
use lib.ListN.{length}
use borrow.Author.Tests.{le-leb, lt-leb, leb-true, ltb-true}
use Rattle.octets.specs.Outcome.{refused, given}
use Rattle.octets.proofs.Outcome.{passed, stepped, both, given-same}
use Rattle.versions.specs.Versions.{known}
use Rattle.numbers_shortening.specs.Shortening.{Acknowledged, ahead, gap, shortened}
use Rattle.numbers.specs.Numbers.{numbers}
use Rattle.header_forms.specs.Rules.{Rules}
use Rattle.header_forms.specs.Forms.{long_form, reserved_bits}
use Rattle.header_fields.specs.Fields.{longest_id}
use Rattle.header_writing.specs.Written.{writes, Plain, first_byte, length_of}
use Rattle.header_writing.proofs.Forms.{fields-length}
use Rattle.protection.specs.Suite.{Suite, Laws}
use Rattle.protection.specs.Protection.{Keys}
use Rattle.protection.proofs.RoundTrip.{WellMade, protected-length}
use Rattle.packets.specs.Packet.{clear_of, packet_of, sealed}
use Rattle.packets.specs.Sealable.{Sealable, size_of}

-- ---- refusals in their order, then the packet
module _ (suite : Suite) (rules : Rules) (k : Keys) (a : Acknowledged) (p : Plain) (room : ℕ) where
  pub seal-version : known k.version ≡ false → sealed suite rules k a p room ≡ refused 4
  unfolding sealed
  seal-version h = rw h

  module _ (ours : known k.version ≡ true) where
    pub seal-level : writes p.token k.level ≡ false → sealed suite rules k a p room ≡ refused 6
    unfolding sealed
    seal-level h = rw (ours, h)

  module _ (ours : known k.version ≡ true) (suits : writes p.token k.level ≡ true) where
    -- 10, 14 or 12, as shortening the number has it
    pub seal-number : {n : ℕ} → refused n ≡ shortened p.packet_number a p.number_length → sealed suite rules k a p room ≡ refused n
    unfolding sealed
    seal-number h = rw (ours, suits, ← h)

    module _ {t : ℕ} (short : given t ≡ shortened p.packet_number a p.number_length) where
      pub seal-destination : longest_id < length p.destination → sealed suite rules k a p room ≡ refused 5
      unfolding sealed
      seal-destination h = rw (ours, suits, ← short, lt-leb (length p.destination) longest_id h)

      module _ (short-destination : length p.destination ≤ longest_id) where
        first-id : leb (length p.destination) longest_id ≡ true
        first-id = le-leb (length p.destination) longest_id short-destination

        pub seal-source : longest_id < length p.source → sealed suite rules k a p room ≡ refused 5
        unfolding sealed
        seal-source h = rw (ours, suits, ← short, first-id, lt-leb (length p.source) longest_id h)

        module _ (short-source : length p.source ≤ longest_id) where
          second-id : leb (length p.source) longest_id ≡ true
          second-id = le-leb (length p.source) longest_id short-source

          pub seal-short : p.number_length + length p.payload < 4 → sealed suite rules k a p room ≡ refused 7
          unfolding sealed
          seal-short h = rw (ours, suits, ← short, first-id, second-id, lt-leb 4 (p.number_length + length p.payload) h)

          module _ (enough : 4 ≤ p.number_length + length p.payload) where
            sampled : leb 4 (p.number_length + length p.payload) ≡ true
            sampled = le-leb 4 (p.number_length + length p.payload) enough

            pub seal-size : rules.limit < length (packet_of suite rules k p) → sealed suite rules k a p room ≡ refused 1
            unfolding sealed
            seal-size h = rw (ours, suits, ← short, first-id, second-id, sampled, lt-leb (length (packet_of suite rules k p)) rules.limit h)

            module _ (fits : length (packet_of suite rules k p) ≤ rules.limit) where
              sized : leb (length (packet_of suite rules k p)) rules.limit ≡ true
              sized = le-leb (length (packet_of suite rules k p)) rules.limit fits

              pub seal-room : room < length (packet_of suite rules k p) → sealed suite rules k a p room ≡ refused 8
              unfolding sealed
              seal-room h = rw (ours, suits, ← short, first-id, second-id, sampled, sized, lt-leb (length (packet_of suite rules k p)) room h)

              pub seal-given : length (packet_of suite rules k p) ≤ room → sealed suite rules k a p room ≡ given (packet_of suite rules k p)
              unfolding sealed
              seal-given h = rw (ours, suits, ← short, first-id, second-id, sampled, sized, le-leb (length (packet_of suite rules k p)) room h)

-- ---- how long
pub packet-size : (suite : Suite) (rules : Rules) (k : Keys) (p : Plain) → Laws suite → length (packet_of suite rules k p) ≡ size_of rules p
packet-size suite rules k p laws =
    omega (
      arith,
      protected-length suite k (clear_of rules k.version k.level p) long_form laws,
      fields-length rules k.version p.destination p.source p.token (length_of p),
    )

-- ---- what is known of a packet because the rules sealed it
pub record Shortened (m n : ℕ) : Type 0 where
  pub small : m < numbers
  pub positive : 1 ≤ n
  pub short : n ≤ 4

pub shortening : (m : ℕ) (a : Acknowledged) (n t : ℕ) → shortened m a n ≡ given t → Shortened m n
unfolding shortened gap
shortening m a n t h =
    let g = stepped (gap m a) _ h in
    let small = passed 10 (ltb m numbers) (ahead m a) g.1 in
    let l = passed 12 (leb 1 n && leb n 4) _ g.2 in
    let b = both _ _ l.0 in
    record { small = ltb-true _ _ small.0; positive = leb-true _ _ b.0; short = leb-true _ _ b.1 }

pub record Sealed (suite : Suite) (rules : Rules) (k : Keys) (p : Plain) (packet : List ℕ) : Type 0 where
  pub ours : known k.version ≡ true
  pub suits : writes p.token k.level ≡ true
  pub small : p.packet_number < numbers
  pub plain : Sealable p
  pub fits : length (packet_of suite rules k p) ≤ rules.limit
  pub is : packet ≡ packet_of suite rules k p

sealing-passes : (suite : Suite) (rules : Rules) (k : Keys) (a : Acknowledged) (p : Plain) (room : ℕ) (packet : List ℕ) → sealed suite rules k a p room ≡ given packet
    → (Sealed suite rules k p packet) × (length (packet_of suite rules k p) ≤ room)
unfolding sealed
sealing-passes suite rules k a p room packet h =
    let ours = passed _ _ _ h in
    let suits = passed _ _ _ ours.1 in
    let t = stepped (shortened p.packet_number a p.number_length) _ suits.1 in
    let n = shortening p.packet_number a p.number_length t.0 t.1 in
    let ids = passed _ _ _ t.2 in
    let two = both _ _ ids.0 in
    let enough = passed _ _ _ ids.1 in
    let fits = passed _ _ _ enough.1 in
    let last = passed 8 (leb (length (packet_of suite rules k p)) room) _ fits.1 in (
      record {
        ours = ours.0;
        suits = suits.0;
        small = n.small;
        plain = record {
          positive = n.positive;
          short = n.short;
          short-destination = leb-true _ _ two.0;
          short-source = leb-true _ _ two.1;
          enough = leb-true _ _ enough.0;
        };
        fits = leb-true _ _ fits.0;
        is = sym (given-same last.1);
      },
      leb-true _ _ last.0,
    )

pub sealing : (suite : Suite) (rules : Rules) (k : Keys) (a : Acknowledged) (p : Plain) (room : ℕ) (packet : List ℕ) → sealed suite rules k a p room ≡ given packet
    → Sealed suite rules k p packet
sealing suite rules k a p room packet h = (sealing-passes suite rules k a p room packet h).0

-- there was room for it
pub sealing-enters : (suite : Suite) (rules : Rules) (k : Keys) (a : Acknowledged) (p : Plain) (room : ℕ) (packet : List ℕ) → sealed suite rules k a p room ≡ given packet
    → length (packet_of suite rules k p) ≤ room
sealing-enters suite rules k a p room packet h = (sealing-passes suite rules k a p room packet h).1

-- so it is well made
pub well-made : (suite : Suite) (rules : Rules) (k : Keys) (p : Plain) (packet : List ℕ) → Sealed suite rules k p packet
    → WellMade long_form (clear_of rules k.version k.level p)
unfolding first_byte reserved_bits
well-made suite rules k p packet made = record {
  small = made.small;
  positive = made.plain.positive;
  short = made.plain.short;
  enough = made.plain.enough;
  tells-length = omega (arith, made.plain.positive, made.plain.short);
  clear-bits = omega (arith, made.plain.short);
}
