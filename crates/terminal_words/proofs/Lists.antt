-- The words of a text as a list.
use Prim.Native.Nat.{ℕ, zero, suc, ◌+◌, ◌-◌, ◌<◌, ◌≤◌}
use mathlib.Core.List.{List, [], ◌∷◌}
use mathlib.Core.Path.{◌≡◌, refl, ap}
use native.Mathlib.Numerals.{add-one}
use native.Mathlib.Omega.{arith}
use lib.ListN.{length}
use Rattle.terminal_words.specs.Words.{word_of, words_up_to, word_count, words_among, words_from}

-- a text that has a word has a character
pub some-character : (s : ℕ) (t : List ℕ) → (word_count s t ≡ 0 → ⊥) → 0 < length t
unfolding words_up_to
some-character s [] h = absurd (h refl)
some-character s (c ∷ t) h = omega arith

module _ (s : ℕ) (t : List ℕ) where
  module _ (i : ℕ) where
    pub words_more : i < word_count s t → words_from s t i ≡ word_of s t i ∷ words_from s t (i + 1)
    unfolding words_among
    words_more l =
        let left : word_count s t - i ≡ suc (word_count s t - (i + 1)) = omega arith in
        rw (left, add-one i)

    pub words-none : word_count s t ≤ i → words_from s t i ≡ []
    unfolding words_among
    words-none l =
        let left : word_count s t - i ≡ 0 = omega arith in
        rw left

  pub words-length : (n i : ℕ) → length (words_among s t n i) ≡ n
  unfolding words_among
  words-length zero i = refl
  words-length (suc n) i = ap suc (words-length n (suc i))
