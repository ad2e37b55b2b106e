-- What C is promised of a Retry: RFC 9001 section 5.8.
use Rattle.std.specs.Prelude.{ℕ, List, [], ◌∷◌, length}
use Rattle.header_forms.specs.Rules.{in_force}
use Rattle.retry_writing.specs.Written.{retry_written}
use Rattle.retry_checking.specs.Retry.{RetryFields, retry_checked}
use Rattle.c_forms.specs.Promises.{Answers, Writes}

abbrev pub DwWriteRetry : (v : ℕ) (original destination source token : List ℕ) (low : ℕ) (before : List ℕ) (r : ℕ) (report : List ℕ) (buffer then : List ℕ) → Type 0
DwWriteRetry v original destination source token low before r report buffer = Writes (retry_written in_force v original destination source token low (length buffer)) before r report buffer

-- version; place and length of destination, source and token
abbrev pub retry_numbers : RetryFields → List ℕ
retry_numbers f = f.version ∷ f.destination.at ∷ f.destination.len ∷ f.source.at ∷ f.source.len ∷ f.token.at ∷ f.token.len ∷ []

abbrev pub DwCheckRetry : (original datagram before : List ℕ) (r : ℕ) (report : List ℕ) → Type 0
DwCheckRetry original datagram = Answers (retry_checked in_force original datagram) retry_numbers
