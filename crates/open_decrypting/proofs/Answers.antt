-- What a refusal leaves, and what decrypting does.
use Prim.Native.Nat.{ℕ, ◌+◌, max}
use mathlib.Core.Path.{◌≡◌, ap₂, ◌∙◌}
use mathlib.Core.Bool.{Bool, true, false}
use mathlib.Core.List.{List, ◌++◌}
use Rattle.std.specs.Prelude.{Ok, Err}
use Rattle.octets.specs.Outcome.{Outcome, refused, given}
use Rattle.octets.specs.Refusals.{number_of}
use Rattle.octets.specs.declared.refusal.Refusal.{Refusal}
use Rattle.octets.specs.Octets.{begun}
use Rattle.aes_schedule.specs.Expansion.{expansion}
use Rattle.gcm_counter.specs.Counter.{stream, stream_by}
use Rattle.gcm.specs.Gcm.{tag}
use Rattle.gcm_counter.proofs.Laws.{stream-length}
use Rattle.protection.specs.Protection.{Keys, nonce}
use Rattle.protection.specs.Clear.{Opened}
use Rattle.open_unmasking.specs.Parts.{plain_of, cipher_of}
use Rattle.open_unmasking.specs.declared.Packet.{Packet}
use Rattle.open_revealing.specs.Revealing.{opened_as, tag_left}
use Rattle.open_tag.specs.Matching.{Matches}
use Rattle.open_writing.specs.Written.{Writes}
use Rattle.open_writing.specs.declared.Opened as Code
use Rattle.open_decrypting.specs.Decrypting.{Leaves}

pub refuses : {o : Outcome Opened} (e : ℕ) (before : List ℕ) (why : Refusal) → o ≡ refused (number_of why) → Leaves o e e before before (Err why)
refuses e before why is = record { answer = rw is; number = rw is; buffer = rw is }

-- ---- a packet whose tag is left to be judged
module _ (k : Keys) (d : List ℕ) (e : ℕ) (before : List ℕ) (p : Packet) (schedule once : List ℕ) (expanded : schedule ≡ expansion k.key) (combined : once ≡ nonce k.iv p.number.0)
    (r : Bool) (judged : Matches schedule once d p r) where
  pub tag-refused : r ≡ false → Leaves (tag_left k d p) e e before before (Err Refusal.Tag)
  unfolding tag
  tag-refused differs = refuses e before Refusal.Tag (rw (← expanded, ← combined, ← judged, differs))

  tag-right : r ≡ true → tag_left k d p ≡ given (opened_as k d p)
  unfolding tag
  tag-right is = rw (← expanded, ← combined, ← judged, is)

  pub decrypts : r ≡ true → (next : ℕ) → next ≡ max e (p.number.0 + 1) → (then : List ℕ) (o : Code.Opened) → Writes schedule once d p before then o
      → Leaves (tag_left k d p) e next before then (Ok o)
  unfolding stream
  decrypts is next moved then o w =
      let right = tag-right is in
      let payload = stream-length k.key (nonce k.iv p.number.0) (cipher_of d p) in
      record {
        answer = rw (right, payload, w.number, w.number_length, w.header_length, w.payload_length, w.bytes_used);
        number = rw right moved;
        buffer = rw right (w.written ∙ ap₂ (λ (s n : List ℕ). begun (plain_of d p ++ stream_by s n (cipher_of d p)) before) expanded combined);
      }
