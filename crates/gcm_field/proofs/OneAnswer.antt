-- A contract on the number of a block permits one block only, since its words have 64 bits.
use Prim.Native.Nat.{ℕ, ◌^◌, ◌<◌}
use mathlib.Core.Path.{◌≡◌, sym, ap₂, ◌∙◌}
use native.Mathlib.Omega.{arith}
use Rattle.gcm_field.specs.Field.{num}
use Rattle.gcm_field.specs.declared.Block.{Block}

abbrev spelled : ℕ → ℕ → Block
spelled hi lo = record { hi = hi; lo = lo }

pub block-once : {a b : Block} {n : ℕ} → a.lo < 2 ^ 64 → b.lo < 2 ^ 64 → num a ≡ n → num b ≡ n → a ≡ b
block-once {a} {b} small small' p q =
    let same : num a ≡ num b = p ∙ sym q in
    ap₂ spelled (omega arith) (omega arith)
