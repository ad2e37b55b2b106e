-- The table by one test over its entries; and an entry by its bytes.
use Prim.Native.Nat.{ℕ, zero, suc, ◌^◌, ◌<◌}
use mathlib.Core.Path.{◌≡◌, ap, ◌∙◌}
use mathlib.Core.List.{List}
use lib.Dec.{T, lit<}
use lib.ListN.{length}
use Rattle.octets.specs.Octets.{Bytes, bytes, number}
use Rattle.octets.proofs.Numbers.{number_lt, bytes_back}
use Rattle.octets.proofs.Rule.{each, fits, filled}
use Rattle.aes_s_box.specs.Box.{s_box}
use Rattle.aes_s_box.proofs.Entries.{box_at, box_at-is}
use Rattle.aes_s_box.proofs.Bytes.{s_box-lt, times-lt}
use Rattle.aes_word_table.specs.Table.{spread, entry, Mixing}

-- the entry at b, by the table of the inverses
abbrev pub entry_at : ℕ → ℕ
entry_at b = number (spread (box_at b))

-- a table of 256 words that passes the test is the round's
pub mixing : (table : List ℕ) → length table ≡ 256 → T (each (fits entry_at) 0 table) → Mixing table
mixing table e t =
    record { rule = λ b h. filled entry_at table t b (rw e h) ∙ ap (λ (s : ℕ). number (spread s)) (box_at-is b h) }

-- ---- an entry's bytes
spread-bytes : (b : ℕ) → b < 256 → Bytes (spread b)
spread-bytes b h zero = times-lt _ b h
spread-bytes b h (suc zero) = h
spread-bytes b h (suc (suc zero)) = h
spread-bytes b h (suc (suc (suc zero))) = times-lt _ b h
spread-bytes b h (suc (suc (suc (suc i)))) = lit< tt

pub entry-bytes : (b : ℕ) → bytes 4 (entry b) ≡ spread (s_box b)
entry-bytes b = bytes_back (spread (s_box b)) (spread-bytes (s_box b) (s_box-lt b))

pub entry_lt : (b : ℕ) → entry b < 2 ^ 32
entry_lt b = number_lt (spread (s_box b)) (spread-bytes (s_box b) (s_box-lt b))
