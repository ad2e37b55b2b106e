-- FIPS 197 section 5.2: the key schedule, 44 words of four bytes one after the other.
use Rattle.std.specs.Prelude.{ℕ, zero, suc, ◌+◌, ◌-◌, ◌*◌, ◌/◌, ◌%◌, ◌<◌, ◌≡◌, Bool, true, false, List, [], ◌∷◌, ◌++◌, eqb, get_or}
use Rattle.aes_s_box.specs.Field.{x_times}
use Rattle.aes_state.specs.State.{row, sum, sub_word}

-- word i of the schedule w
abbrev pub word : List ℕ → ℕ → List ℕ
word w i = row (λ j. get_or w (4 * i + j) 0)

-- RotWord: each byte moves one place to the left, the first to the end
abbrev pub rot_word : List ℕ → List ℕ
rot_word a = row (λ j. get_or a ((j + 1) % 4) 0)

-- x^n in the field
unfoldable pub x_power : ℕ → ℕ
x_power zero = 1
x_power (suc n) = x_times (x_power n)

-- a table of the powers of x, from the first on
pub record Powers (table : List ℕ) : Type 0 where
  pub rule : (n : ℕ) → n < 10 → get_or table n 0 ≡ x_power n

-- table 5: Rcon[j] is x^(j-1) and three zeros
abbrev pub rcon : ℕ → List ℕ
rcon j = x_power (j - 1) ∷ 0 ∷ 0 ∷ 0 ∷ []

-- algorithm 2: what is made of the word before word i, where the test says whether 4 divides i
abbrev pub turned : Bool → ℕ → List ℕ → List ℕ
turned true i temp = sum (sub_word (rot_word temp)) (rcon (i / 4))
turned false i temp = temp

-- algorithm 2: word i, from the words before it
unfoldable pub next_word : List ℕ → ℕ → List ℕ
next_word w i = sum (word w (i - 4)) (turned (eqb (i % 4) 0) i (word w (i - 1)))

-- algorithm 2: n words more, from word i on
unfoldable pub grown : ℕ → ℕ → List ℕ → List ℕ
grown zero i w = w
grown (suc n) i w = grown n (i + 1) (w ++ next_word w i)

-- algorithm 2: KeyExpansion; the first four words are the key
unfoldable pub expansion : List ℕ → List ℕ
expansion key = grown 40 4 key
