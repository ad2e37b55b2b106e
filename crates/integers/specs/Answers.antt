-- The code's answer as the outcome it stands for, and what reading promises of it.
use Rattle.std.specs.Prelude.{ℕ, ◌≡◌, List, Result}
use Rattle.octets.specs.Outcome.{Outcome}
use Rattle.octets.specs.Refusals.{outcome}
use Rattle.octets.specs.declared.refusal.Refusal.{Refusal}
use Rattle.integers.specs.Integer as Section16
use Rattle.integers.specs.Integer.{integer}
use Rattle.integers.specs.declared.Integer.{Integer}

abbrev pub integer_of : Integer → Section16.Integer
integer_of i = record { value = i.value; taken = i.taken }

abbrev pub integer_answer : Result Integer Refusal → Outcome Section16.Integer
integer_answer = outcome integer_of

pub record ReadInteger (s : List ℕ) (r : Result Integer Refusal) : Type 0 where
  pub answer : integer_answer r ≡ integer s
