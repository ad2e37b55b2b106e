-- The contract of the round constants fixes them: any two answers that it permits are equal.
use mathlib.Core.Path.{◌≡◌, sym, ◌∙◌}
use mathlib.Core.HLevel.{is_prop→PathP}
use Rattle.std.proofs.Props.{props}
use Rattle.sha256_constants.specs.declared.Constants.{Constants}
use Rattle.sha256_constants.specs.Constants.{K}

pub constants-once : {a b : Constants} → a ≡ b
constants-once {a} {b} =
    let same = a.are_k ∙ sym b.are_k in
    λ i. record { words = same i; are_k = is_prop→PathP (λ j. same j ≡ K) (λ j. hlevel props) a.are_k b.are_k i }
