-- The code's answers as what they stand for, and what writing promises.
use Rattle.std.specs.Prelude.{ℕ, ◌+◌, ◌≤◌, ◌≡◌, List, length, Result}
use Rattle.octets.specs.Outcome.{Outcome}
use Rattle.octets.specs.Octets.{placed, length_given}
use Rattle.octets.specs.Refusals.{outcome}
use Rattle.octets.specs.declared.refusal.Refusal.{Refusal}
use Rattle.header_forms.specs.Rules.{in_force}
use Rattle.header_fields.specs.Fields.{longest_id, tag_length}
use Rattle.retry_writing.specs.Written.{retry_written}

-- the packet's length
abbrev pub writing_answer : Result ℕ Refusal → Outcome ℕ
writing_answer = outcome (λ n. n)

pub record WriteRetry (v : ℕ) (original destination source token : List ℕ) (low : ℕ) (before : List ℕ) (r : Result ℕ Refusal) (after : List ℕ) : Type 0 where
  pub answer : writing_answer r ≡ length_given (retry_written in_force v original destination source token low (length before))
  pub output : after ≡ placed (retry_written in_force v original destination source token low (length before)) before

-- how long a Retry of these parts is
abbrev pub size_of : (destination source token : List ℕ) → ℕ
size_of destination source token = 7 + length destination + length source + length token + tag_length

-- parts that are written, and a buffer with room for the packet
pub record Writable (original destination source token buffer : List ℕ) : Type 0 where
  pub short-original : length original ≤ longest_id
  pub short-destination : length destination ≤ longest_id
  pub short-source : length source ≤ longest_id
  pub size : size_of destination source token ≤ in_force.limit
  pub room : size_of destination source token ≤ length buffer
