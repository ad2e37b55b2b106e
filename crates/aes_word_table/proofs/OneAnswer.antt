-- The contract of the table fixes it: any two that it permits are equal.
use mathlib.Core.Path.{◌≡◌}
use mathlib.Core.HLevel.{is_prop→PathP}
use mathlib.Core.List.{List}
use Prim.Native.Nat.{ℕ}
use lib.ListN.{length}
use Rattle.std.proofs.Props.{props}
use Rattle.octets.proofs.Rule.{filled-once}
use Rattle.aes_word_table.specs.declared.MixingTable.{MixingTable}
use Rattle.aes_word_table.specs.Table.{entry, Mixing}

pub table-once : {a b : List ℕ} → length a ≡ 256 → length b ≡ 256 → Mixing a → Mixing b → a ≡ b
table-once long-a long-b in-a in_b = filled-once entry 256 long-a long-b in-a.rule in_b.rule

-- and so are two answers, which have nothing beside it
pub mixing-once : {a b : MixingTable} → length a.words ≡ 256 → length b.words ≡ 256 → a ≡ b
mixing-once {a} {b} long-a long-b =
    let same = table-once long-a long-b a.is_mixing b.is_mixing in
    λ i. record { words = same i; is_mixing = is_prop→PathP (λ j. Mixing (same j)) (λ j. hlevel props) a.is_mixing b.is_mixing i }
