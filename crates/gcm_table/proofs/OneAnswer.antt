-- A table of 128 blocks whose entries are right is the one of its hash key.
use Prim.Native.Nat.{ℕ, ◌*◌, ◌/◌, ◌%◌, ◌^◌, ◌<◌}
use mathlib.Core.Path.{◌≡◌, refl, sym, ap, ◌∙◌}
use mathlib.Core.HLevel.{is_prop→PathP}
use mathlib.Core.List.{List}
use native.Mathlib.Omega.{arith}
use lib.ListN.{length, get_or}
use lib.Seq.{ext_get_or}
use Rattle.std.proofs.Props.{props}
use Rattle.gcm_field.specs.Field.{nexts, steps}
use Rattle.gcm_field.specs.declared.Block.{Block}
use Rattle.gcm_field.proofs.OneAnswer.{block-once}
use Rattle.gcm_table.specs.declared.KeyTable.{KeyTable}
use Rattle.gcm_table.specs.Table.{zeros, entry_of, key_of, Table}

module _ (s t : List Block) (words : (i : ℕ) → (get_or s i zeros).lo < 2 ^ 64) (words' : (i : ℕ) → (get_or t i zeros).lo < 2 ^ 64) (r : Table s) (r' : Table t) (key : key_of s ≡ key_of t) where
  entries : (e : ℕ) → e < 128 → entry_of s e ≡ entry_of t e
  entries e l = r.rule e l ∙ ap (λ (k : ℕ). steps 4 (e % 16) 0 (nexts (e / 16 * 16) k)) key ∙ sym (r'.rule e l)

  pub table-once : length s ≡ 128 → length t ≡ 128 → s ≡ t
  table-once ls lt = ext_get_or zeros s t (ls ∙ sym lt) (λ i l. block-once (words i) (words' i) (entries i (omega arith)) refl)

-- and so are two answers, which have nothing beside it
pub key-table-once : {a b : KeyTable} → ((i : ℕ) → (get_or a.entries i zeros).lo < 2 ^ 64) → ((i : ℕ) → (get_or b.entries i zeros).lo < 2 ^ 64)
    → key_of a.entries ≡ key_of b.entries → length a.entries ≡ 128 → length b.entries ≡ 128 → a ≡ b
key-table-once {a} {b} words words' key long-a long-b =
    let same = table-once a.entries b.entries words words' a.is_table b.is_table key long-a long-b in
    λ i. record { entries = same i; is_table = is_prop→PathP (λ j. Table (same j)) (λ j. hlevel props) a.is_table b.is_table i }
