-- AES on words: one column of a round (FIPS 197 section 5.1). A column of the state is a word, its byte in row 0 the most significant.
use Rattle.std.specs.Prelude.{ℕ, List, [], ◌∷◌, get_or}
use Rattle.octets.specs.Octets.{bytes}
use Rattle.aes_s_box.specs.Box.{s_box}

-- the byte of a column in row r
abbrev pub byte_in : ℕ → ℕ → ℕ
byte_in r w = get_or (bytes 4 w) r 0

-- sections 5.1.1 and 5.1.2: a column of the state, substituted and shifted: its row 0 is the first column's, its row 1 the second's, ..
abbrev pub shifted_column : ℕ → ℕ → ℕ → ℕ → List ℕ
shifted_column a b c d = s_box (byte_in 0 a) ∷ s_box (byte_in 1 b) ∷ s_box (byte_in 2 c) ∷ s_box (byte_in 3 d) ∷ []
