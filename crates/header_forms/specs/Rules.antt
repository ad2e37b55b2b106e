-- docs/SCOPE.md, "The packet": how large a datagram may be and how Length is written. A request may set both anew.
use Rattle.std.specs.Prelude.{ℕ, ◌^◌, ◌≤◌, ◌<◌, ◌≡◌, List, ◌++◌, length}
use Rattle.octets.specs.Outcome.{given}
use Rattle.integers.specs.Integer.{integer}
use Rattle.integers_writing.specs.Written.{two}

pub record Rules : Type 0 where
  -- the largest datagram
  pub limit : ℕ
  -- Length, as it is written
  pub length_form : ℕ → List ℕ

-- the scope's own: 1,500 bytes, and Length always in two
abbrev pub first_rules : Rules
first_rules = record { limit = 1500; length_form = two }

-- those that every contract cites
abbrev pub in_force : Rules
in_force = first_rules

-- what opening asks of them: a Length up to the limit is read back, whatever stands behind it
pub record Readable (rules : Rules) : Type 0 where
  pub small : rules.limit < 2 ^ 30
  pub back : (n : ℕ) (rest : List ℕ) → n ≤ rules.limit
      → integer (rules.length_form n ++ rest) ≡ given (record { value = n; taken = length (rules.length_form n) })
