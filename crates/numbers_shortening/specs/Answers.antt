-- The code's answers as the outcomes they stand for, and what each entry point promises of its answer.
use Rattle.std.specs.Prelude.{ℕ, ◌≡◌, Option, Some, None, Result}
use Rattle.octets.specs.Outcome.{Outcome}
use Rattle.octets.specs.Refusals.{outcome}
use Rattle.octets.specs.declared.refusal.Refusal.{Refusal}
use Rattle.numbers.specs.declared.FullPn.{FullPn}
use Rattle.numbers.specs.declared.TruncatedPn.{TruncatedPn}
use Rattle.numbers_shortening.specs.Shortening as Section17
use Rattle.numbers_shortening.specs.Shortening.{smallest_length, shortened}

-- the greatest number that the other side has acknowledged
abbrev pub acknowledged_of : Option FullPn → Section17.Acknowledged
acknowledged_of None = Section17.nothing
acknowledged_of (Some a) = Section17.up_to a.0

abbrev pub gap_answer : Result ℕ Refusal → Outcome ℕ
gap_answer = outcome (λ g. g)

abbrev pub smallest_answer : Result ℕ Refusal → Outcome ℕ
smallest_answer = outcome (λ n. n)

abbrev pub shortened_answer : Result TruncatedPn Refusal → Outcome ℕ
shortened_answer = outcome (λ t. t.0)

pub record SmallestLength (m : FullPn) (a : Option FullPn) (r : Result ℕ Refusal) : Type 0 where
  pub answer : smallest_answer r ≡ smallest_length m.0 (acknowledged_of a)

pub record Shorten (m : FullPn) (a : Option FullPn) (n : ℕ) (r : Result TruncatedPn Refusal) : Type 0 where
  pub answer : shortened_answer r ≡ shortened m.0 (acknowledged_of a) n
