-- FIPS 180-4 section 5.1.1: the padding, behind a message of l bytes.
use Rattle.std.specs.Prelude.{ℕ, ◌-◌, ◌*◌, ◌%◌, List, ◌∷◌, ◌++◌, replicate}
use Rattle.octets.specs.Octets.{bytes}

-- the fewest zero bytes that bring the message, 0x80 and them to 56 modulo 64
unfoldable pub zeros : ℕ → ℕ
zeros l = (119 - l % 64) % 64

unfoldable pub padding : ℕ → List ℕ
padding l = 0x80 ∷ replicate (zeros l) 0 ++ bytes 8 (8 * l)
