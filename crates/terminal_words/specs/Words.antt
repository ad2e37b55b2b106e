-- Words of a text: the runs of characters between separators.
use Rattle.std.specs.Prelude.{ℕ, zero, suc, ◌+◌, ◌-◌, Bool, cond, not, ◌&&◌, ◌||◌, List, [], ◌∷◌, eqb, ltb, length, get_or, drop}
use Rattle.octets.specs.Octets.{part}

-- how many characters stand before the first that a test finds
unfoldable pub until : (ℕ → Bool) → List ℕ → ℕ
until test [] = 0
until test (c ∷ t) = cond (test c) 0 (suc (until test t))

-- whether a character is the separator, or is not
abbrev pub is : ℕ → ℕ → Bool
is s c = eqb c s

abbrev pub is_not : ℕ → ℕ → Bool
is_not s c = not (eqb c s)

-- from a place on, where a separator stands, or the end
abbrev pub end_at : ℕ → List ℕ → ℕ → ℕ
end_at s t at = at + until (is s) (drop at t)

-- from a place on, where a character stands that is no separator, or the end
abbrev pub past_at : ℕ → List ℕ → ℕ → ℕ
past_at s t at = at + until (is_not s) (drop at t)

-- where the word of an index starts, counted from 0, or the end where there are fewer
unfoldable pub word_at : ℕ → List ℕ → ℕ → ℕ
word_at s t zero = past_at s t 0
word_at s t (suc i) = past_at s t (end_at s t (word_at s t i))

-- the word of an index, and nothing where there are fewer
abbrev pub word_of : ℕ → List ℕ → ℕ → List ℕ
word_of s t i = part t (word_at s t i) (until (is s) (drop (word_at s t i) t))

-- whether a word starts at a place: at a character that is no separator, the text's first or one behind a separator
unfoldable pub starts_at : ℕ → List ℕ → ℕ → Bool
starts_at s t at = ltb at (length t) && (not (eqb (get_or t at 0) s) && (eqb at 0 || eqb (get_or t (at - 1) 0) s))

-- how many words start among the first characters of a text
unfoldable pub words_up_to : ℕ → List ℕ → ℕ → ℕ
words_up_to s t zero = 0
words_up_to s t (suc n) = cond (starts_at s t n) (suc (words_up_to s t n)) (words_up_to s t n)

-- how many words there are
abbrev pub word_count : ℕ → List ℕ → ℕ
word_count s t = words_up_to s t (length t)

-- so many words, from an index on
unfoldable pub words_among : ℕ → List ℕ → ℕ → ℕ → List (List ℕ)
words_among s t zero i = []
words_among s t (suc n) i = word_of s t i ∷ words_among s t n (suc i)

-- all words from an index on
abbrev pub words_from : ℕ → List ℕ → ℕ → List (List ℕ)
words_from s t i = words_among s t (word_count s t - i) i
