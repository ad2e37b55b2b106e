-- Blanks of a text made zeros.
use Rattle.std.specs.Prelude.{ℕ, cond, ◌||◌, List, [], ◌∷◌, eqb}

-- a zero for a blank, a tab or a carriage return; any other character as it is
unfoldable pub unblanked : ℕ → ℕ
unblanked c = cond (eqb c 32 || (eqb c 9 || eqb c 13)) 0 c

-- each character of a text
unfoldable pub zeroed : List ℕ → List ℕ
zeroed [] = []
zeroed (c ∷ t) = unblanked c ∷ zeroed t
