-- AES on words: sections 5.1.1 and 5.1.3 of FIPS 197 in one table. A column of the state is a word, its byte in row 0 the most significant.
use Rattle.std.specs.Prelude.{ℕ, ◌<◌, ◌≡◌, List, [], ◌∷◌, get_or}
use Rattle.octets.specs.Octets.{number}
use Rattle.aes_s_box.specs.Field.{◌•◌}
use Rattle.aes_s_box.specs.Box.{s_box}

-- section 5.1.3: what a byte in row 0 adds to each row of its mixed column
abbrev pub spread : ℕ → List ℕ
spread b = (2 • b) ∷ b ∷ b ∷ (3 • b) ∷ []

-- the entry at b: what the S-box's byte of b adds, as a word
abbrev pub entry : ℕ → ℕ
entry b = number (spread (s_box b))

-- a table of these words
pub record Mixing (table : List ℕ) : Type 0 where
  pub rule : (b : ℕ) → b < 256 → get_or table b 0 ≡ entry b
