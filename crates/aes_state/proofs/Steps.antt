-- Four entries at once: of any type, and bytes.
use Prim.Native.Nat.{ℕ, zero, suc, ◌<◌}
use mathlib.Core.Path.{◌≡◌}
use mathlib.Core.List.{[], ◌∷◌}
use lib.Dec.{lit<}
use Rattle.octets.specs.Octets.{Bytes}
use Rattle.aes_state.specs.State.{row}

pub four : {A : Type 0} {a b c d a' b' c' d' : A} → a ≡ a' → b ≡ b' → c ≡ c' → d ≡ d' → a ∷ b ∷ c ∷ d ∷ [] ≡ a' ∷ b' ∷ c' ∷ d' ∷ []
four p q r s = cc

pub row-bytes : (f : ℕ → ℕ) → ((i : ℕ) → f i < 256) → Bytes (row f)
row-bytes f h zero = h 0
row-bytes f h (suc zero) = h 1
row-bytes f h (suc (suc zero)) = h 2
row-bytes f h (suc (suc (suc zero))) = h 3
row-bytes f h (suc (suc (suc (suc i)))) = lit< tt
