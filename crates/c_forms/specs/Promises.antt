-- What each function promises C: 0 or the refusal's number, and all that was lent to be written.
use Rattle.std.specs.Prelude.{ℕ, ◌≡◌, List, [], ◌∷◌, length}
use Rattle.octets.specs.Outcome.{Outcome, refused, given}
use Rattle.octets.specs.Octets.{placed}

-- 0, or the refusal's number
abbrev pub answered : {A : Type 0} → Outcome A → ℕ
answered (refused n) = n
answered (given a) = 0

-- a report afterwards: that of what is given; refused, as it was
abbrev pub told : {A T : Type 0} → (A → List T) → Outcome A → (before : List T) → List T
told report (refused n) before = before
told report (given a) before = report a

-- the answer and the report of an outcome
pub record Answers {A T : Type 0} (o : Outcome A) (report_of : A → List T) (before : List T) (r : ℕ) (report : List T) : Type 0 where
  pub answer : r ≡ answered o
  pub reported : report ≡ told report_of o before

-- the same, and the bytes given at the start of an output; their length is the report
pub record Writes (o : Outcome (List ℕ)) (before : List ℕ) (r : ℕ) (report : List ℕ) (buffer then : List ℕ) : Type 0 where
  pub answers : Answers o (λ packet. length packet ∷ []) before r report
  pub written : then ≡ placed o buffer
