-- docs/SCOPE.md, "Refusals", of the code: each refusal's number, and the outcome that an answer stands for.
use Rattle.std.specs.Prelude.{ℕ, Result, Ok, Err}
use Rattle.octets.specs.Outcome.{Outcome, refused, given}
use Rattle.octets.specs.declared.refusal.Refusal.{Refusal}

abbrev pub number_of : Refusal → ℕ
number_of Refusal.Size = 1
number_of Refusal.Form = 2
number_of Refusal.NotWhole = 3
number_of Refusal.Version = 4
number_of Refusal.LongId = 5
number_of Refusal.Type = 6
number_of Refusal.Short = 7
number_of Refusal.Room = 8
number_of Refusal.Reserved = 9
number_of Refusal.Range = 10
number_of Refusal.Tag = 11
number_of Refusal.Length = 12
number_of Refusal.NoToken = 13
number_of Refusal.Gap = 14

-- what an answer of the code stands for, where a value of the code stands for one of the paper
abbrev pub outcome : {A B : Type 0} → (A → B) → Result A Refusal → Outcome B
outcome value (Err why) = refused (number_of why)
outcome value (Ok a) = given (value a)
