-- The contract of the table fixes it: any two that it permits are equal.
use mathlib.Core.Path.{◌≡◌}
use mathlib.Core.HLevel.{is_prop→PathP}
use mathlib.Core.List.{List}
use Prim.Native.Nat.{ℕ}
use lib.ListN.{length}
use Rattle.std.proofs.Props.{props}
use Rattle.octets.proofs.Rule.{filled-once}
use Rattle.aes_s_box.specs.declared.SBox.{SBox}
use Rattle.aes_s_box.specs.Box.{Box, s_box}

pub table-once : {a b : List ℕ} → length a ≡ 256 → length b ≡ 256 → Box a → Box b → a ≡ b
table-once long-a long-b in-a in_b = filled-once s_box 256 long-a long-b in-a.rule in_b.rule

-- and so are two answers, which have nothing beside it
pub box-once : {a b : SBox} → length a.bytes ≡ 256 → length b.bytes ≡ 256 → a ≡ b
box-once {a} {b} long-a long-b =
    let same = table-once long-a long-b a.is_box b.is_box in
    λ i. record { bytes = same i; is_box = is_prop→PathP (λ j. Box (same j)) (λ j. hlevel props) a.is_box b.is_box i }
