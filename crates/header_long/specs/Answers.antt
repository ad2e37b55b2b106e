-- What is asked of a long header's readers, and what they answer, as the outcomes that they stand for.
use Rattle.std.specs.Prelude.{ℕ, Bool, true, eqb, Option, Some, None, Result}
use Rattle.octets.specs.Outcome.{Outcome}
use Rattle.octets.specs.Refusals.{outcome}
use Rattle.octets.specs.declared.refusal.Refusal.{Refusal}
use Rattle.versions.specs.Versions.{Version, level_of}
use Rattle.header_fields.specs.Answers.{place_of}
use Rattle.header_long.specs.LongHeader as Section17
use Rattle.header_long.specs.LongHeader.{only_level, only_retry}
use Rattle.header_long.specs.declared.Types.{Types}
use Rattle.header_long.specs.declared.Judge.{Judge}
use Rattle.header_long.specs.declared.Judged.{Judged}
use Rattle.header_long.specs.declared.Long.{Long}

-- ---- what is asked for
-- any known version, or one alone
abbrev pub takes : Option ℕ → ℕ → Bool
takes None = λ v. true
takes (Some w) = λ v. eqb v w

abbrev pub kind_of : Types → Version → (type : ℕ) → Outcome ℕ
kind_of Types.Leveled = level_of
kind_of (Types.Level l) = only_level l
kind_of Types.Retry = only_retry

abbrev pub judge_of : Judge → Section17.Judge ℕ
judge_of j = record { takes = takes j.only; kind = kind_of j.types }

-- ---- what is answered
abbrev pub version_answer : Result ℕ Refusal → Outcome ℕ
version_answer = outcome (λ v. v)

abbrev pub judged_of : Judged → Section17.Judged ℕ
judged_of j = record { version = j.version; kind = j.kind }

abbrev pub judged_answer : Result Judged Refusal → Outcome (Section17.Judged ℕ)
judged_answer = outcome judged_of

abbrev pub long_of : Long → Section17.Long ℕ
long_of l = record { version = l.version; kind = l.kind; destination = place_of l.destination; source = place_of l.source }

abbrev pub long_answer : Result Long Refusal → Outcome (Section17.Long ℕ)
long_answer = outcome long_of
