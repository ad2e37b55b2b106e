-- A contract on the state of GHASH permits one record only.
use Prim.Native.Nat.{ℕ, ◌^◌, ◌<◌}
use mathlib.Core.Path.{◌≡◌, refl, sym, ap, ◌∙◌}
use mathlib.Core.HLevel.{is_prop→PathP}
use Rattle.std.proofs.Props.{props}
use Rattle.gcm_field.specs.declared.Block.{Block}
use Rattle.gcm_field.specs.Field.{num}
use Rattle.gcm_field.proofs.OneAnswer.{block-once}
use Rattle.gcm_hash.specs.Hash.{State, state}
use Rattle.gcm_hash.specs.declared.Ghash.{Ghash}

abbrev parts : Block → ℕ → State
parts y n = record { y = num y; filled = n }

-- its parts, however many bytes the present block has: a record has fewer than sixteen
pub parts-once : {y y' : Block} {n n' : ℕ} {g : State} → y.lo < 2 ^ 64 → y'.lo < 2 ^ 64 → parts y n ≡ g → parts y' n' ≡ g → (y ≡ y') × (n ≡ n')
parts-once small small' p q =
    let same = p ∙ sym q in
    (block-once small small' (ap (λ (s : State). s.y) same) refl, ap (λ (s : State). s.filled) same)

same-hash : (a b : Ghash) → a.y ≡ b.y → a.filled ≡ b.filled → a ≡ b
same-hash a b p q =
    λ i. record { y = p i; filled = q i; is_open = is_prop→PathP (λ j. q j < 16) (λ j. hlevel props) a.is_open b.is_open i }

pub state-once : {a b : Ghash} {g : State} → a.y.lo < 2 ^ 64 → b.y.lo < 2 ^ 64 → state a ≡ g → state b ≡ g → a ≡ b
state-once {a} {b} small small' p q =
    let same = parts-once {y = a.y} {y' = b.y} {n = a.filled} {n' = b.filled} small small' p q in
    same-hash a b same.0 same.1
