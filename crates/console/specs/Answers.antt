-- A part of a buffer that may not be there.
use Rattle.std.specs.Prelude.{ℕ, ◌+◌, cond, List, [], leb, length}
use Rattle.octets.specs.Octets.{part}

-- the bytes of a buffer from a place on, and nothing where they are not all there
unfoldable pub inside : List ℕ → ℕ → ℕ → List ℕ
inside d at n = cond (leb (at + n) (length d)) (part d at n) []
