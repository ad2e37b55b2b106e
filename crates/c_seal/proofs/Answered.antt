-- What C is told of a packet, by what sealing answered of the keys and the acknowledged number that C's arguments stand for.
use Prim.Native.Nat.{ℕ}
use mathlib.Core.Path.{◌≡◌, subst}
use mathlib.Core.List.{List}
use lib.ListN.{length}
use Rattle.std.specs.Prelude.{Result}
use Rattle.octets.specs.Outcome.{Outcome}
use Rattle.numbers_shortening.specs.Shortening.{Acknowledged}
use Rattle.header_forms.specs.Rules.{in_force}
use Rattle.header_writing.specs.Written.{Plain}
use Rattle.protection.specs.Protection.{Keys}
use Rattle.packets.specs.Packet.{sealed}
use Rattle.protection.specs.AesGcm.{aes_gcm}
use Rattle.seal.specs.Sealing.{Seal}
use Rattle.seal_judging.specs.Judging.{sealing_answer}
use Rattle.octets.specs.declared.refusal.Refusal.{Refusal}
use Rattle.c_forms.specs.Promises.{Answers, Writes}
use Rattle.c_forms.proofs.Answering.{writing}
use Rattle.c_seal.specs.Promises.{length_alone}

module _ {k k' : Keys} {a a' : Acknowledged} {p : Plain} {buffer : List ℕ} {r : Result ℕ Refusal} {then : List ℕ}
    (same_keys : k ≡ k') (same-acknowledged : a ≡ a') (answer : Seal k a p buffer r then) where
  meant : Seal k' a' p buffer r then
  meant = subst (λ (x : Keys). Seal x a' p buffer r then) same_keys (subst (λ (x : Acknowledged). Seal k x p buffer r then) same-acknowledged answer)

  pub seal-told : {before report : List ℕ} {n : ℕ} → Answers (sealing_answer r) length_alone before n report
      → Writes (sealed aes_gcm in_force k' a' p (length buffer)) before n report buffer then
  seal-told {before} {report} {n} told =
      writing _ (subst (λ (o : Outcome ℕ). Answers o length_alone before n report) meant.answer told) meant.output
