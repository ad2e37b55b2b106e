-- What is left once the mask is taken off: the reserved bits, the number's range, and then the tag alone.
use Prim.Native.Nat.{ℕ, ◌+◌}
use mathlib.Core.Path.{◌≡◌, refl, sym, ap, ◌∙◌}
use mathlib.Core.List.{List}
use lib.ListN.{take}
use Rattle.std.specs.Prelude.{Result, Ok, Err, IsErrAnd}
use Rattle.octets.specs.Outcome.{refused, given}
use Rattle.octets.specs.Octets.{bytes, number as spells}
use Rattle.octets.specs.Refusals.{number_of}
use Rattle.octets.specs.declared.refusal.Refusal.{Refusal}
use Rattle.octets.proofs.Numbers.{byte_power, number-back}
use Rattle.numbers_recovery.specs.Recovery.{decoded, recovered}
use Rattle.numbers.specs.declared.FullPn.{FullPn}
use Rattle.header_forms.specs.Forms.{Form, reserved_bits}
use Rattle.protection.specs.Protection.{Keys}
use Rattle.protection.specs.Clear.{unprotected}
use Rattle.protection.specs.AesGcm.{aes_gcm}
use Rattle.protection.proofs.Unprotecting.{number-some, number-few, recovery-refused, recovery-given, unprotect-reserved, unprotect-range, unprotect-judged}
use Rattle.open_unmasking.specs.Unmasking.{Unmasks}
use Rattle.open_unmasking.specs.declared.Bare.{Bare}
use Rattle.open_unmasking.specs.declared.Packet.{Packet}
use Rattle.open_revealing.specs.Revealing.{Placed, Revealed, Reveals}

-- what `?` passes on is what comes of it
pub reveals-refused : (form : Form) (k : Keys) (e : ℕ) (d : List ℕ) (place len : ℕ) (r : Result Packet Refusal) (why : Refusal) → IsErrAnd r (λ passed. passed ≡ why)
    → unprotected aes_gcm form k e (take (place + len) d) place ≡ refused (number_of why) → Reveals form k e d place len r
reveals-refused form k e d place len (Err passed) why is refuses = rw is refuses
reveals-refused form k e d place len (Ok p) why is refuses = absurd is

module _ (form : Form) (k : Keys) (e : ℕ) (d : List ℕ) (place len : ℕ) (placed : Placed e d place len) {b : Bare} (u : Unmasks form k d place b) where
  pub bits-refused : (reserved_bits form b.first ≡ 0 → ⊥) → unprotected aes_gcm form k e (take (place + len) d) place ≡ refused 9
  bits-refused bits = unprotect-reserved e u.bare len placed.headed placed.enough placed.all bits

  module _ (zeros : reserved_bits form b.first ≡ 0) where
    same_number : decoded e b.truncated.0 b.count ≡ decoded e (spells (bytes b.count b.truncated.0)) b.count
    same_number = rw (number-back b.count b.truncated.0 (rw (byte_power b.count) u.small))

    pub range-refused : {why : ℕ} → refused why ≡ recovered e b.truncated.0 b.count
        → unprotected aes_gcm form k e (take (place + len) d) place ≡ refused why
    range-refused is =
        let r = recovery-refused e b.truncated.0 b.count placed.fair (number-some u.bare) (number-few u.bare) u.small is in
        unprotect-range e u.bare len placed.headed placed.enough placed.all zeros (rw (← same_number) r.1) ∙ ap refused (sym r.0)

    abbrev packet : FullPn → Packet
    packet m = record { first = b.first; count = b.count; truncated = b.truncated; number = m; place = place; length = len }

    pub packet-revealed : (m : FullPn) → given m.0 ≡ recovered e b.truncated.0 b.count → Revealed form k e d place len (packet m)
    packet-revealed m is =
        let r = recovery-given e b.truncated.0 b.count placed.fair (number-some u.bare) (number-few u.bare) u.small is in
        record {
          stands = refl;
          counts = refl;
          few = number-few u.bare;
          small = r.1;
          left = unprotect-judged e u.bare len placed.headed placed.enough placed.all zeros (r.0 ∙ same_number) r.1 refl;
        }
