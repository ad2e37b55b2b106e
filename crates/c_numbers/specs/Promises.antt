-- What C is promised of integers and packet numbers: RFC 9000 sections 16 and 17.1.
use Rattle.std.specs.Prelude.{ℕ, List, [], ◌∷◌}
use Rattle.integers.specs.Integer.{integer}
use Rattle.numbers_shortening.specs.Shortening.{smallest_length, shortened}
use Rattle.numbers_recovery.specs.Recovery.{recovered}
use Rattle.c_forms.specs.Arguments.{acknowledged_by}
use Rattle.c_forms.specs.Promises.{Answers}

-- value and bytes taken
abbrev pub DwReadInteger : (bytes before : List ℕ) (r : ℕ) (report : List ℕ) → Type 0
DwReadInteger bytes = Answers (integer bytes) (λ i. i.value ∷ i.taken ∷ [])

abbrev pub DwSmallestLength : (number any acknowledged : ℕ) (before : List ℕ) (r : ℕ) (report : List ℕ) → Type 0
DwSmallestLength number any acknowledged = Answers (smallest_length number (acknowledged_by any acknowledged)) (λ n. n ∷ [])

abbrev pub DwShorten : (number any acknowledged n : ℕ) (before : List ℕ) (r : ℕ) (report : List ℕ) → Type 0
DwShorten number any acknowledged n = Answers (shortened number (acknowledged_by any acknowledged) n) (λ t. t ∷ [])

abbrev pub DwRecover : (expected truncated n : ℕ) (before : List ℕ) (r : ℕ) (report : List ℕ) → Type 0
DwRecover expected truncated n = Answers (recovered expected truncated n) (λ m. m ∷ [])
