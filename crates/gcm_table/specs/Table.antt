-- The table by which a hash key multiplies: for each of the eight runs of 16 bits of a block, the multiples by its four highest bits.
use Rattle.std.specs.Prelude.{ℕ, ◌+◌, ◌*◌, ◌/◌, ◌%◌, ◌<◌, ◌≡◌, List, get_or}
use Rattle.gcm_field.specs.Field.{nexts, steps, num}
use Rattle.gcm_field.specs.declared.Block.{Block}

-- the block of zeros
abbrev pub zeros : Block
zeros = record { hi = 0; lo = 0 }

-- entry e of a table, as a number
abbrev pub entry_of : List Block → ℕ → ℕ
entry_of table e = num (get_or table e zeros)

-- entry 16 p + k is what the steps for the four bits of k add to Z, from V at the run p on
abbrev pub Right : ℕ → List Block → ℕ → Type 0
Right h table e = entry_of table e ≡ steps 4 (e % 16) 0 (nexts (e / 16 * 16) h)

-- the entries below n are right
abbrev pub Filled : ℕ → List Block → ℕ → Type 0
Filled h table n = (e : ℕ) → e < n → Right h table e

-- from the first i entries of the run at e, and w, the multiple by i, come twice as many
abbrev pub Doubled : List Block → List Block → ℕ → ℕ → ℕ → Type 0
Doubled before after e i w = (h : ℕ) → w ≡ steps 4 i 0 (nexts e h) → Filled h before (e + i) → Filled h after (e + i + i)

-- the hash key of a table: the bits of 8 are 1000
abbrev pub key_of : List Block → ℕ
key_of table = entry_of table 8

-- all 128 entries are right
pub record Table (table : List Block) : Type 0 where
  pub rule : Filled (key_of table) table 128
