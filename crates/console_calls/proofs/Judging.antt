-- What the tests on the way say of a call.
use Prim.Native.Nat.{ℕ, suc, ◌+◌, ◌-◌, ◌<◌, ◌≤◌}
use mathlib.Core.Bool.{true, false, and-false}
use mathlib.Core.List.{List, [], ◌∷◌}
use mathlib.Core.Path.{◌≡◌, refl, sym, ap, ◌∙◌}
use native.Mathlib.Omega.{arith}
use borrow.Author.Tests.{le-leb, eq-eqb, ne_eqb, eqb-true, eqb-false}
use lib.Dec.{leb}
use lib.ListN.{length}
use Rattle.octets.specs.Octets.{same}
use Rattle.terminal_words.specs.Words.{word_of, word_count, words_from}
use Rattle.terminal_words.proofs.Lists.{words_more, words-none, words-length}
use Rattle.console_keys.specs.Words.{is_asked}
use Rattle.console_calls.specs.Calls.{are_right, usage_among, enough, made_as}

-- ---- as many words as the manual's line has
module _ (line usage : List ℕ) (given wanted : ℕ) (a : given ≡ word_count 0 line - 1) (b : wanted ≡ word_count 32 usage - 2) where
  pub enough-when : given ≡ wanted → enough line usage ≡ true
  unfolding enough
  enough-when e = eq-eqb _ _ (sym a ∙ e ∙ b)

  pub enough-not : (given ≡ wanted → ⊥) → enough line usage ≡ false
  unfolding enough
  enough-not n = ne_eqb _ _ (λ e. n (a ∙ e ∙ sym b))

-- ---- each word by its name
module _ (line usage : List ℕ) (counted : enough line usage ≡ true) (i : ℕ) (l : 1 ≤ i) where
  module _ (m : i < word_count 0 line) where
    named : i + 1 < word_count 32 usage
    unfolding enough
    named =
        let even : word_count 0 line - 1 ≡ word_count 32 usage - 2 = eqb-true _ _ counted in
        omega arith

    module _ {t n : List ℕ} (word : t ≡ word_of 0 line i) (name : n ≡ word_of 32 usage (i + 1)) where
      pub right-passed : is_asked t n ≡ true
          → are_right (words_from 0 line i) (words_from 32 usage (i + 1)) ≡ are_right (words_from 0 line (i + 1)) (words_from 32 usage (i + 1 + 1))
      unfolding are_right
      right-passed h = rw (words_more 0 line i m, words_more 32 usage (i + 1) named, sym word, sym name, h)

      pub right-stopped : is_asked t n ≡ false → are_right (words_from 0 line i) (words_from 32 usage (i + 1)) ≡ false
      unfolding are_right
      right-stopped h = rw (words_more 0 line i m, words_more 32 usage (i + 1) named, sym word, sym name, h)

  pub right_end : word_count 0 line ≤ i → are_right (words_from 0 line i) (words_from 32 usage (i + 1)) ≡ true
  unfolding are_right enough
  right_end m =
      let even : word_count 0 line - 1 ≡ word_count 32 usage - 2 = eqb-true _ _ counted in
      let named : word_count 32 usage ≤ i + 1 = omega arith in
      rw (words-none 0 line i m, words-none 32 usage (i + 1) named)

-- a word more or less than there are names
uneven : (ts ns : List (List ℕ)) → (length ts ≡ length ns → ⊥) → are_right ts ns ≡ false
unfolding are_right
uneven [] [] h = absurd (h refl)
uneven [] (n ∷ ns) h = refl
uneven (t ∷ ts) [] h = refl
uneven (t ∷ ts) (n ∷ ns) h = rw (uneven ts ns (λ e. h (ap suc e)), and-false (is_asked t n))

-- ---- the manual's line on a command
module _ (manual command : List ℕ) (i : ℕ) where
  module _ (l : i < word_count 10 manual) {u w : List ℕ} (usage : u ≡ word_of 10 manual i) (name : w ≡ word_of 32 u 1) where
    pub usage-found : same w command ≡ true → u ≡ usage_among command (words_from 10 manual i)
    unfolding usage_among
    usage-found h = rw (words_more 10 manual i l, sym usage, sym name, h)

    pub usage-passed : same w command ≡ false → usage_among command (words_from 10 manual (i + 1)) ≡ usage_among command (words_from 10 manual i)
    unfolding usage_among
    usage-passed h = rw (words_more 10 manual i l, sym usage, sym name, h)

  pub usage-none : word_count 10 manual ≤ i → usage_among command (words_from 10 manual i) ≡ []
  unfolding usage_among
  usage-none l = rw (words-none 10 manual i l)

-- ---- a call by a line of the manual
module _ (line usage : List ℕ) where
  pub made_none : length usage ≡ 0 → made_as line usage ≡ false
  unfolding made_as
  made_none e = rw e

  pub made-uneven : enough line usage ≡ false → made_as line usage ≡ false
  unfolding made_as enough
  made-uneven h =
      let words = words-length 0 line (word_count 0 line - 1) 1 in
      let names = words-length 32 usage (word_count 32 usage - 2) 2 in
      rw (uneven (words_from 0 line 1) (words_from 32 usage 2) (λ e. eqb-false _ _ h (sym words ∙ e ∙ names)), and-false (leb 1 (length usage)))

  pub made_by : (length usage ≡ 0 → ⊥) → made_as line usage ≡ are_right (words_from 0 line 1) (words_from 32 usage 2)
  unfolding made_as
  made_by n = rw (le-leb 1 (length usage) (omega arith))
