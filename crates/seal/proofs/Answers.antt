-- What judging answers, as sealing's answer and the buffer.
use Prim.Native.Nat.{ℕ}
use mathlib.Core.Path.{◌≡◌, refl, sym, ◌∙◌}
use mathlib.Core.List.{List}
use lib.ListN.{length}
use Rattle.std.specs.Prelude.{Result, Ok, IsErrAnd}
use Rattle.octets.specs.Outcome.{Outcome, refused, given}
use Rattle.octets.specs.Octets.{begun, placed, length_given}
use Rattle.octets.specs.declared.refusal.Refusal.{Refusal}
use Rattle.octets.specs.Refusals.{number_of}
use Rattle.octets.proofs.Outcome.{apart}
use Rattle.octets.proofs.Refusals.{passed-on}
use Rattle.numbers_shortening.specs.Shortening.{Acknowledged}
use Rattle.header_forms.specs.Rules.{in_force}
use Rattle.header_writing.specs.Written.{Plain}
use Rattle.protection.specs.Protection.{Keys}
use Rattle.packets.specs.Packet.{packet_of, sealed}
use Rattle.packets.specs.Sealable.{size_of, Writable}
use Rattle.protection.specs.AesGcm.{aes_gcm}
use Rattle.protection.proofs.AesGcmLaws.{aes-gcm-laws}
use Rattle.packets.proofs.Sealing.{Sealed, sealing, sealing-enters, packet-size}
use Rattle.seal.specs.Sealing.{Seal}

-- a length is given of what is given alone
stays : (o : Outcome (List ℕ)) {n : ℕ} (before : List ℕ) → refused n ≡ length_given o → before ≡ placed o before
stays (refused m) before h = refl
stays (given s) before h = absurd (apart h)

is-given : (o : Outcome (List ℕ)) {n : ℕ} → given n ≡ length_given o → (s : List ℕ) × (o ≡ given s)
is-given (refused m) h = absurd (apart (sym h))
is-given (given s) h = (s, refl)

module _ (k : Keys) (a : Acknowledged) (p : Plain) (out : List ℕ) where
  -- refused, and the buffer as it was
  pub refuse : {r : Result ℕ Refusal} (why : Refusal) → refused (number_of why) ≡ length_given (sealed aes_gcm in_force k a p (length out))
      → IsErrAnd r (λ passed. passed ≡ why) → Seal k a p out r out
  refuse why judged is =
      record { answer = passed-on _ _ why is ∙ judged; output = stays (sealed aes_gcm in_force k a p (length out)) out judged }

  module _ {n : ℕ} (judged : given n ≡ length_given (sealed aes_gcm in_force k a p (length out))) where
    whole : (s : List ℕ) × (sealed aes_gcm in_force k a p (length out) ≡ given s)
    whole = is-given (sealed aes_gcm in_force k a p (length out)) judged

    made : Sealed aes_gcm in_force k p whole.0
    made = sealing aes_gcm in_force k a p (length out) whole.0 whole.1

    size : length (packet_of aes_gcm in_force k p) ≡ size_of in_force p
    size = packet-size aes_gcm in_force k p aes-gcm-laws

    -- the packet can be written
    pub writable : Writable p (length out)
    writable = record {
      sealable = made.plain;
      size = rw (← size) made.fits;
      enters = rw (← size) (sealing-enters aes_gcm in_force k a p (length out) whole.0 whole.1);
    }

    -- and so it stands at the buffer's start
    pub written : {after : List ℕ} → after ≡ begun (packet_of aes_gcm in_force k p) out → Seal k a p out (Ok n) after
    written holds = record { answer = judged; output = holds ∙ rw (whole.1, made.is) }
