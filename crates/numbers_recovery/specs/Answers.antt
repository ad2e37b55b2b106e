-- The code's answer as the outcome it stands for, and what recovery promises of it.
use Rattle.std.specs.Prelude.{ℕ, ◌≡◌, Result}
use Rattle.octets.specs.Outcome.{Outcome}
use Rattle.octets.specs.Refusals.{outcome}
use Rattle.octets.specs.declared.refusal.Refusal.{Refusal}
use Rattle.numbers.specs.declared.FullPn.{FullPn}
use Rattle.numbers.specs.declared.TruncatedPn.{TruncatedPn}
use Rattle.numbers_recovery.specs.Recovery.{recovered}

abbrev pub recovered_answer : Result FullPn Refusal → Outcome ℕ
recovered_answer = outcome (λ m. m.0)

pub record Recover (e : ℕ) (t : TruncatedPn) (n : ℕ) (r : Result FullPn Refusal) : Type 0 where
  pub answer : recovered_answer r ≡ recovered e t.0 n
