-- A sealed packet is opened again, whatever stands behind it: its header is read back, and what was protected is found. Keys of another level refuse it.
use Prim.Native.Nat.{ℕ, ◌+◌, ◌/◌, ◌≤◌}
use mathlib.Core.Path.{◌≡◌, refl, sym, ap, ◌∙◌}
use mathlib.Core.List.{List, ◌∷◌, ◌++◌, append_assoc}
use native.Mathlib.Omega.{arith}
use lib.ListN.{length, get_or, take, length-append}
use lib.Seq.{take_at}
use borrow.Author.Tests.{eq-eqb}
use Rattle.octets.specs.Outcome.{refused, given}
use Rattle.numbers.specs.Numbers.{numbers}
use Rattle.numbers_recovery.specs.Recovery.{Near}
use Rattle.versions.specs.Versions.{version, type_for}
use Rattle.versions.proofs.Versions.{type-fits}
use Rattle.header_forms.specs.Rules.{Rules, Readable}
use Rattle.header_forms.specs.Forms.{long_form, formed}
use Rattle.header_forms.proofs.Forms.{formed-right}
use Rattle.header_writing.specs.Written.{Plain, first_byte, fields, length_of}
use Rattle.header_reading.proofs.PacketHeaders.{header-no-long}
use Rattle.header_writing.proofs.HeaderBack.{level-taken, level-refused, long-refused, number_at, is-long, number-place, Written, header_read}
use Rattle.protection.specs.Suite.{Suite, Laws}
use Rattle.protection.specs.Protection.{Keys}
use Rattle.protection.specs.Clear.{Clear}
use Rattle.protection.proofs.RoundTrip.{first-kept, hidden_first, from_number, protected-is, from-number-length, protected-length, unprotected-back}
use Rattle.packets.specs.Packet.{clear_of, packet_of, of_keys, opened}
use Rattle.packets.specs.Effects.{what_was_sealed}
use Rattle.packets.specs.LevelsApart.{LevelsApart}
use Rattle.packets.proofs.Sealing.{Sealed, sealing, well-made}
use Rattle.packets.proofs.Opening.{open-header, open-protected}

module _ (suite : Suite) (laws : Laws suite) (rules : Rules) (readable : Readable rules) (k : Keys) (p : Plain) (packet : List ℕ) (made : Sealed suite rules k p packet)
    (behind d : List ℕ) (joined : d ≡ packet ++ behind) (fits : length d ≤ rules.limit) where
  abbrev v : ℕ
  v = k.version

  abbrev level : ℕ
  level = k.level

  abbrev clear : Clear
  clear = clear_of rules v level p

  -- in the packet the first byte is masked, and so is all from the number on
  abbrev first : ℕ
  first = hidden_first suite k clear long_form

  abbrev rest : List ℕ
  rest = from_number suite k clear ++ behind

  is : d ≡ first ∷ fields rules v p ++ rest
  is =
      joined ∙ rw (made.is, protected-is suite k clear long_form)
      (ap (λ (s : List ℕ). first ∷ s) (append_assoc (fields rules v p) (from_number suite k clear) behind))

  -- form, fixed bit and type, under any mask
  first-form : first / 16 ≡ 12 + type_for (version v) level
  unfolding first_byte
  first-form = first-kept long_form _ (first_byte v level p) ∙ omega (arith, made.plain.short)

  size : length packet ≡ number_at rules p + length_of p
  size = omega (arith, number-place rules v p, protected-length suite k clear long_form laws, ap length made.is)

  long : formed rules long_form d ≡ given tt
  long =
      let byte : get_or d 0 0 ≡ first = rw is in
      let some = ap length is in
      formed-right rules long_form d (omega arith) fits (omega (arith, first-form, type-fits v level))

  written : Written rules (of_keys k) v first level p d rest
  written = record {
    is = is;
    fits = fits;
    ours = made.ours;
    taken = eq-eqb v v refl;
    judges = level-taken v first level p.token first-form made.suits;
    suits = made.suits;
    short-destination = made.plain.short-destination;
    short-source = made.plain.short-source;
    enough = omega (arith, made.plain.enough);
    all = omega (arith, length-append (from_number suite k clear) behind, from-number-length suite k clear laws);
  }

  -- keys of another level refuse the type
  refused-joined : (other : Keys) → other.version ≡ v → (level ≡ other.level → ⊥) → (e room : ℕ) → e ≤ numbers → opened suite rules other e d room ≡ refused 6
  refused-joined other same apart e room fair =
      let begins = is-long rules v first p d rest is in
      let refuses = level-refused v first level p.token first-form made.suits other.level apart in
      let read = long-refused v first p.destination p.source d _ begins made.ours (of_keys other) (eq-eqb v other.version (sym same)) refuses in
      open-header suite rules other e d room fair (rw same made.ours) (sym long) (sym (header-no-long (of_keys other) d (sym read)))

  opened-joined : (e room : ℕ) → e ≤ numbers → Near e p.packet_number p.number_length → length packet ≤ room + 16
      → opened suite rules k e d room ≡ given (what_was_sealed rules k p packet)
  opened-joined e room fair near enough =
      let read = sym (header_read rules readable (of_keys k) v first level p d rest written) in
      let taken : take (number_at rules p + length_of p) d ≡ packet_of suite rules k p
      = rw joined (take_at packet behind (number_at rules p + length_of p) size) ∙ made.is in
      open-protected suite rules k e d room fair made.ours (sym long) read (omega (arith, size))
      ∙ rw (taken, number-place rules v p, made.is) (unprotected-back suite k clear long_form laws (well-made suite rules k p packet made) e near)

-- the packet that the rules seal is opened whole by a receiver that expects a number near its own
pub opened-back : (suite : Suite) → Laws suite → (rules : Rules) → Readable rules → (k : Keys) (p : Plain) (packet : List ℕ) → Sealed suite rules k p packet
    → (behind : List ℕ) → length (packet ++ behind) ≤ rules.limit
    → (e room : ℕ) → e ≤ numbers → Near e p.packet_number p.number_length → length packet ≤ room + 16
    → opened suite rules k e (packet ++ behind) room ≡ given (what_was_sealed rules k p packet)
opened-back suite laws rules readable k p packet made behind fits = opened-joined suite laws rules readable k p packet made behind (packet ++ behind) refl fits

-- and by no keys of another level
pub levels-apart : (suite : Suite) → Laws suite → (rules : Rules) → Readable rules → LevelsApart suite rules
levels-apart suite laws rules readable k a p room packet h = record {
  refuses = λ other same apart behind fits e room'.
      refused-joined suite laws rules readable k p packet (sealing suite rules k a p room packet h) behind (packet ++ behind) refl fits other same apart e room';
}
