-- The powers of x, by one test over their table.
use Prim.Native.Nat.{ℕ}
use mathlib.Core.Path.{◌≡◌}
use mathlib.Core.List.{List}
use lib.Dec.{T}
use lib.ListN.{length}
use Rattle.octets.proofs.Rule.{each, fits, filled}
use Rattle.aes_schedule.specs.Expansion.{x_power, Powers}

-- a table of ten entries that passes the test holds the powers
pub powered : (table : List ℕ) → length table ≡ 10 → T (each (fits x_power) 0 table) → Powers table
powered table e t = record { rule = λ n h. filled x_power table t n (rw e h) }
