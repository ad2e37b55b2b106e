-- FIPS 197 section 3.4 and sections 5.1.1 and 5.1.4: the state, and the steps of a round that go byte by byte.
use Rattle.std.specs.Prelude.{ℕ, ◌+◌, ◌*◌, List, [], ◌∷◌, ◌++◌, get_or}
use Rattle.aes_s_box.specs.Field.{◌⊕◌}
use Rattle.aes_s_box.specs.Box.{s_box}

-- ---- section 3.4: the state, four rows of four bytes
abbrev pub State : Type 0
State = List (List ℕ)

-- the byte in row r and column c
abbrev pub at : State → ℕ → ℕ → ℕ
at s r c = get_or (get_or s r []) c 0

abbrev pub row : (ℕ → ℕ) → List ℕ
row f = f 0 ∷ f 1 ∷ f 2 ∷ f 3 ∷ []

-- the state whose bytes are given by row and column
abbrev pub state : (ℕ → ℕ → ℕ) → State
state f = row (f 0) ∷ row (f 1) ∷ row (f 2) ∷ row (f 3) ∷ []

-- section 3.4: the block's byte r + 4c is the state's in row r and column c
abbrev pub input : List ℕ → State
input b = state (λ r c. get_or b (r + 4 * c) 0)

abbrev pub column : State → ℕ → List ℕ
column s c = row (λ r. at s r c)

-- section 3.4: the columns, one after the other
abbrev pub output : State → List ℕ
output s = column s 0 ++ column s 1 ++ column s 2 ++ column s 3

-- ---- the steps of a round
-- section 5.1.1
abbrev pub sub_bytes : State → State
sub_bytes s = state (λ r c. s_box (at s r c))

-- section 5.1.4: a round key, its words as columns, is added
abbrev pub add_round_key : State → State → State
add_round_key s k = state (λ r c. at s r c ⊕ at k r c)

-- the sum of two words
abbrev pub sum : List ℕ → List ℕ → List ℕ
sum a b = row (λ j. get_or a j 0 ⊕ get_or b j 0)

-- SubWord
abbrev pub sub_word : List ℕ → List ℕ
sub_word a = row (λ j. s_box (get_or a j 0))
