-- FIPS 197 section 5.1.2: the shifting of the rows.
use Rattle.std.specs.Prelude.{◌+◌, ◌%◌}
use Rattle.aes_state.specs.State.{State, at, state}

-- ShiftRows: row r moves r places to the left
abbrev pub shift_rows : State → State
shift_rows s = state (λ r c. at s r ((c + r) % 4))
