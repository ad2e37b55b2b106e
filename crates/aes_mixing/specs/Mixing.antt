-- FIPS 197 section 5.1.3: the mixing of the columns.
use Rattle.std.specs.Prelude.{ℕ, ◌+◌, ◌%◌, List, get_or}
use Rattle.aes_s_box.specs.Field.{◌⊕◌, ◌•◌}
use Rattle.aes_state.specs.State.{State, row, state, column}

-- a byte of a column times the polynomial {03}x^3 + {01}x^2 + {01}x + {02}, from that byte and the three below it
unfoldable pub mixed : ℕ → ℕ → ℕ → ℕ → ℕ
mixed a b c d = 2 • a ⊕ 3 • b ⊕ c ⊕ d

-- a column, mixed
abbrev pub mixed_column : List ℕ → List ℕ
mixed_column s = row (λ r. mixed (get_or s r 0) (get_or s ((r + 1) % 4) 0) (get_or s ((r + 2) % 4) 0) (get_or s ((r + 3) % 4) 0))

-- MixColumns: each column is mixed
abbrev pub mix_columns : State → State
mix_columns s = state (λ r c. get_or (mixed_column (column s c)) r 0)
