-- What writing promises, by what it comes to: refused, the output stays; given, the packet stands at its start.
use Prim.Native.Nat.{ℕ}
use mathlib.Core.Path.{◌≡◌}
use mathlib.Core.List.{List}
use lib.ListN.{length}
use Rattle.octets.specs.Outcome.{refused, given}
use Rattle.octets.specs.Octets.{Begins}
use Rattle.octets.proofs.Buffers.{refused-placed, given-placed}
use Rattle.header_forms.specs.Rules.{in_force}
use Rattle.retry_writing.specs.Written.{retry_written}
use Rattle.retry_writing.specs.Answers.{WriteRetry}
use Rattle.std.specs.Prelude.{Ok, Err}
use Rattle.octets.specs.Refusals.{number_of}
use Rattle.octets.specs.declared.refusal.Refusal.{Refusal}

module _ {v : ℕ} {original destination source token : List ℕ} {low : ℕ} {out : List ℕ} where
  pub write-refused : (why : Refusal) → retry_written in_force v original destination source token low (length out) ≡ refused (number_of why)
      → WriteRetry v original destination source token low out (Err why) out
  write-refused why is = let stays = refused-placed out is in record { answer = stays.0; output = stays.1 }

  pub write-made : {packet after : List ℕ} {n : ℕ} → retry_written in_force v original destination source token low (length out) ≡ given packet
      → Begins packet out after n → WriteRetry v original destination source token low out (Ok n) after
  write-made is begins = let stands = given-placed is begins in record { answer = stands.0; output = stands.1 }
