-- The library's comparison of two texts is the definition's.
use Prim.Native.Nat.{ℕ}
use mathlib.Core.List.{List, [], ◌∷◌}
use mathlib.Core.Bool.{Bool, ◌&&◌}
use mathlib.Core.Path.{◌≡◌, refl, ap}
use lib.Dec.{eqb}
use Rattle.std.specs.Cmp.Lexicographic.{pointwise}
use Rattle.octets.specs.Octets.{same}

pub equal-is-same : (a b : List ℕ) → pointwise eqb a b ≡ same a b
unfolding same
equal-is-same [] [] = refl
equal-is-same [] (y ∷ b) = refl
equal-is-same (x ∷ a) [] = refl
equal-is-same (x ∷ a) (y ∷ b) = ap (λ (r : Bool). eqb x y && r) (equal-is-same a b)
