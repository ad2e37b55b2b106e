-- What decrypting promises: its answer, the number expected then, and the lent buffer afterwards.
use Rattle.std.specs.Prelude.{ℕ, ◌≡◌, List, length, Result}
use Rattle.octets.specs.Outcome.{Outcome, refused, given}
use Rattle.octets.specs.Octets.{placed}
use Rattle.octets.specs.Refusals.{outcome}
use Rattle.octets.specs.declared.refusal.Refusal.{Refusal}
use Rattle.protection.specs.Clear.{Opened}
use Rattle.packets.specs.Effects.{output, after}
use Rattle.open_writing.specs.declared.Opened as Code

-- docs/SCOPE.md, "Answers": the full number and its length, the header's length with the number in it, the payload's, and the bytes used
pub record Report : Type 0 where
  pub full_number : ℕ
  pub number_length : ℕ
  pub header_length : ℕ
  pub payload_length : ℕ
  pub bytes_used : ℕ

abbrev pub report_of : Code.Opened → Report
report_of o = record {
  full_number = o.number.0;
  number_length = o.number_length;
  header_length = o.header_length;
  payload_length = o.payload_length;
  bytes_used = o.used;
}

abbrev pub opening_answer : Result Code.Opened Refusal → Outcome Report
opening_answer = outcome report_of

-- the lengths are those of the plain header and of the payload
abbrev pub reported : Outcome Opened → Outcome Report
reported (refused n) = refused n
reported (given o) = given (record {
  full_number = o.packet_number;
  number_length = o.number_length;
  header_length = length o.plain;
  payload_length = length o.payload;
  bytes_used = o.used;
})

-- what an outcome leaves: the answer, the number expected then, and the lent buffer
pub record Leaves (o : Outcome Opened) (expected next : ℕ) (before then : List ℕ) (r : Result Code.Opened Refusal) : Type 0 where
  pub answer : opening_answer r ≡ reported o
  pub number : next ≡ after expected o
  pub buffer : then ≡ placed (output o) before
