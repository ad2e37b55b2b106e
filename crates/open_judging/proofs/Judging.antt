-- What was found under the mask of a packet whose header was read is what was found in the datagram.
use Prim.Native.Nat.{ℕ, ◌+◌, ◌-◌, ◌≤◌}
use mathlib.Core.Path.{◌≡◌, ◌∙◌}
use mathlib.Core.Bool.{true}
use mathlib.Core.List.{List}
use native.Mathlib.Omega.{arith}
use Rattle.std.specs.Prelude.{Result, Ok, Err, IsErrAnd}
use Rattle.octets.specs.Outcome.{refused, given}
use Rattle.octets.specs.Refusals.{number_of}
use Rattle.octets.specs.declared.refusal.Refusal.{Refusal}
use Rattle.numbers.specs.Numbers.{numbers}
use Rattle.versions.specs.Versions.{known}
use Rattle.header_forms.specs.Rules.{in_force}
use Rattle.header_forms.specs.Forms.{long_form, formed}
use Rattle.header_forms.proofs.Forms.{formed-fits}
use Rattle.header_fields.specs.Fields.{tag_length}
use Rattle.header_reading.specs.PacketHeader.{Header, header}
use Rattle.header_reading.proofs.PacketHeaders.{header-there}
use Rattle.protection.specs.Protection.{Keys}
use Rattle.protection.specs.AesGcm.{aes_gcm}
use Rattle.packets.specs.Packet.{of_keys, opened}
use Rattle.packets.proofs.Opening.{open-protected}
use Rattle.open_revealing.specs.Revealing.{Placed, Revealed, Reveals}
use Rattle.open_unmasking.specs.Parts.{Within}
use Rattle.open_unmasking.specs.declared.Packet.{Packet}
use Rattle.open_unmasking.specs.declared.located.Located.{Located}
use Rattle.open_judging.specs.Found.{Found, Finds}

-- what `?` passes on is what opening comes to
pub finds-refused : (k : Keys) (e : ℕ) (d : List ℕ) (room : ℕ) (r : Result Located Refusal) (why : Refusal) → IsErrAnd r (λ passed. passed ≡ why)
    → opened aes_gcm in_force k e d room ≡ refused (number_of why) → Finds k e d room r
finds-refused k e d room (Err passed) why is refuses = rw is refuses
finds-refused k e d room (Ok p) why is refuses = absurd is

module _ (k : Keys) (e : ℕ) (d : List ℕ) (room : ℕ) (fair : e ≤ numbers) (ours : known k.version ≡ true) (long : given tt ≡ formed in_force long_form d) {h : Header}
    (read : given h ≡ header (of_keys k) d) where
  -- the packet lies whole in the datagram
  pub placed : Placed e d h.number_at h.length'
  placed =
      let there = header-there (of_keys k) d read in
      record { fair = fair; headed = omega arith; enough = there.enough; all = there.all }

  module _ (enough : h.number_at + h.length' - tag_length ≤ room) where
    -- what is refused under the mask is refused
    pub covered : (r : Result Located Refusal) (why : Refusal) → IsErrAnd r (λ passed. passed ≡ why)
        → Reveals long_form k e d h.number_at h.length' (Err why) → Finds k e d room r
    covered r why is refuses = finds-refused k e d room r why is (open-protected aes_gcm in_force k e d room fair ours long read enough ∙ refuses)

    -- and what is left to be judged under it is the tag
    module _ (p : Packet) (r : Revealed long_form k e d h.number_at h.length' p) where
      pub within : Within d p
      within =
          let there = header-there (of_keys k) d read in
          record {
            fits = formed-fits in_force long_form d long;
            headed = omega (arith, r.stands);
            few = r.few;
            enough = omega (arith, r.counts, there.enough);
            all = omega (arith, r.stands, r.counts, there.all);
          }

      pub found : Found k e d room p
      found = record {
        within = within;
        holds = omega (arith, r.stands, r.counts);
        small = r.small;
        left = open-protected aes_gcm in_force k e d room fair ours long read enough ∙ r.left;
      }
