-- What two of C's arguments stand for.
use Rattle.std.specs.Prelude.{ℕ, zero, suc}
use Rattle.numbers_shortening.specs.Shortening.{Acknowledged, nothing, up_to}

-- 0: nothing is acknowledged, whatever the greatest is; anything else: all up to the greatest
abbrev pub acknowledged_by : (any greatest : ℕ) → Acknowledged
acknowledged_by zero greatest = nothing
acknowledged_by (suc any) greatest = up_to greatest
