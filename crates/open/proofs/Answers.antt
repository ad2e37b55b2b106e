-- What was found in a datagram and decrypted is what is opened.
use Prim.Native.Nat.{ℕ}
use mathlib.Core.Path.{◌≡◌}
use mathlib.Core.List.{List}
use lib.ListN.{length}
use Rattle.std.specs.Prelude.{Result, Ok, Err, IsErrAnd}
use Rattle.octets.specs.Outcome.{Outcome, refused}
use Rattle.octets.specs.Refusals.{number_of}
use Rattle.octets.specs.declared.refusal.Refusal.{Refusal}
use Rattle.header_forms.specs.Rules.{in_force}
use Rattle.protection.specs.Protection.{Keys}
use Rattle.protection.specs.Clear.{Opened}
use Rattle.protection.specs.AesGcm.{aes_gcm}
use Rattle.packets.specs.Packet.{opened}
use Rattle.open_decrypting.specs.Decrypting.{Leaves}
use Rattle.open_writing.specs.declared.Opened as Code
use Rattle.open_decrypting.proofs.Answers.{refuses}
use Rattle.open.specs.Opening.{Open}

module _ (k : Keys) (d : List ℕ) (e : ℕ) (before : List ℕ) where
  -- what `?` passes on is what opening comes to, and nothing is written or moved
  pub nothing-found : (r : Result Code.Opened Refusal) (why : Refusal) → IsErrAnd r (λ passed. passed ≡ why)
      → opened aes_gcm in_force k e d (length before) ≡ refused (number_of why) → Open k d e e before before r
  nothing-found (Err passed) why passes is =
      let l = refuses e before why is in
      rw passes (record { answer = l.answer; number = l.number; buffer = l.buffer })
  nothing-found (Ok o) why passes is = absurd passes

  pub opens : {o : Outcome Opened} {next : ℕ} {then : List ℕ} {r : Result Code.Opened Refusal} → opened aes_gcm in_force k e d (length before) ≡ o → Leaves o e next before then r
      → Open k d e next before then r
  opens is l = record { answer = rw is l.answer; number = rw is l.number; buffer = rw is l.buffer }
