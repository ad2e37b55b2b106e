-- Words of a text, one character a turn.
use Prim.Native.Nat.{ℕ, suc, ◌+◌, ◌-◌, ◌<◌, ◌≤◌}
use mathlib.Core.Bool.{Bool, true, false}
use mathlib.Core.List.{List, [], ◌∷◌}
use mathlib.Core.Path.{◌≡◌, refl, sym, ap, ◌∙◌}
use native.Mathlib.Numerals.{add-one}
use borrow.Author.Tests.{lt-ltb, le-ltb, eq-eqb, ne_eqb, ltb-false}
use lib.Dec.{eqb, ltb}
use native.Mathlib.Omega.{arith}
use lib.ListN.{length, get_or, take, drop, drop_of_length-le}
use lib.Seq.{drop-cons}
use Rattle.std.specs.Prelude.{Option, Some, None, cond}
use Rattle.std.specs.List.{position_or_len}
use Rattle.std.specs.Option.{unwrap_or}
use Rattle.octets.specs.Octets.{part}
use Rattle.terminal_words.specs.Words.{until, is, end_at, past_at, word_at, word_of, starts_at, words_up_to}

-- ---- what stands before the first character that a test finds
module _ (test : ℕ → Bool) (t : List ℕ) (i : ℕ) where
  pub until-turn : i < length t → test (get_or t i 0) ≡ false → until test (drop i t) ≡ suc (until test (drop (i + 1) t))
  unfolding until
  until-turn l h = rw (drop-cons t i 0 l, add-one i, h)

  pub until-stops : i < length t → test (get_or t i 0) ≡ true → until test (drop i t) ≡ 0
  unfolding until
  until-stops l h = rw (drop-cons t i 0 l, h)

  pub until-ends : length t ≤ i → until test (drop i t) ≡ 0
  unfolding until
  until-ends l = ap (until test) (drop_of_length-le t l)

-- it is the place of that character, or the end
pub until-position : (test : ℕ → Bool) (t : List ℕ) → position_or_len test t ≡ until test t
unfolding until
until-position test [] = refl
until-position test (c ∷ t) = by (until-position test t) (test c) refl
  where
    by : position_or_len test t ≡ until test t → (b : Bool) → test c ≡ b → position_or_len test (c ∷ t) ≡ until test (c ∷ t)
    by rest true p = rw p refl
    by rest false p = rw p (omega (arith, rest))

pub until-le : (test : ℕ → Bool) (t : List ℕ) → until test t ≤ length t
unfolding until
until-le test [] = omega arith
until-le test (c ∷ t) = by (until-le test t) (test c) refl
  where
    by : until test t ≤ length t → (b : Bool) → test c ≡ b → until test (c ∷ t) ≤ length (c ∷ t)
    by rest true p = rw p (omega arith)
    by rest false p = rw p (omega arith)

pub until-or-end : (test : ℕ → Bool) (t : List ℕ) (n : ℕ) (found : Option ℕ) → n ≡ length t
    → found ≡ cond (ltb (position_or_len test t) (length t)) (Some (position_or_len test t)) None → unwrap_or found n ≡ until test t
until-or-end test t n found long is =
    ap (λ (f : Option ℕ). unwrap_or f n) is
    ∙ ap (λ (k : ℕ). unwrap_or (cond (ltb k (length t)) (Some k) None) n) (until-position test t)
    ∙ by (ltb (until test t) (length t)) refl
  where
    by : (b : Bool) → ltb (until test t) (length t) ≡ b → unwrap_or (cond b (Some (until test t)) None) n ≡ until test t
    by true p = refl
    by false p = omega (arith, ltb-false _ _ p, until-le test t)

-- ---- whether a word starts at a place
module _ (s : ℕ) (t : List ℕ) (at : ℕ) where
  pub starts-ends : length t ≤ at → starts_at s t at ≡ false
  unfolding starts_at
  starts-ends l = simp (le-ltb at (length t) l)

  pub starts-not : at < length t → get_or t at 0 ≡ s → starts_at s t at ≡ false
  unfolding starts_at
  starts-not l h = simp (lt-ltb at (length t) l, eq-eqb (get_or t at 0) s h)

  pub starts_first : at < length t → (get_or t at 0 ≡ s → ⊥) → at ≡ 0 → starts_at s t at ≡ true
  unfolding starts_at
  starts_first l h e = simp (lt-ltb at (length t) l, ne_eqb (get_or t at 0) s h, eq-eqb at 0 e)

  pub starts-behind : at < length t → (get_or t at 0 ≡ s → ⊥) → (at ≡ 0 → ⊥) → starts_at s t at ≡ eqb (get_or t (at - 1) 0) s
  unfolding starts_at
  starts-behind l h e = simp (lt-ltb at (length t) l, ne_eqb (get_or t at 0) s h, ne_eqb at 0 e)

  -- ---- words counted
  pub count-one : starts_at s t at ≡ true → words_up_to s t (at + 1) ≡ words_up_to s t at + 1
  unfolding words_up_to
  count-one h = rw (add-one at, h, add-one (words_up_to s t at))

  pub count_none : starts_at s t at ≡ false → words_up_to s t (at + 1) ≡ words_up_to s t at
  unfolding words_up_to
  count_none h = rw (add-one at, h)

-- ---- the place of a word
pub word_first : (s : ℕ) (t : List ℕ) (p : ℕ) → p ≡ past_at s t 0 → p ≡ word_at s t 0
unfolding word_at
word_first s t p e = e

pub word_next : (s : ℕ) (t : List ℕ) (i a e p : ℕ) → a ≡ word_at s t i → e ≡ end_at s t a → p ≡ past_at s t e → p ≡ word_at s t (i + 1)
unfolding word_at
word_next s t i a e p ea ee ep = ep ∙ ap (past_at s t) (ee ∙ ap (end_at s t) ea) ∙ sym (ap (word_at s t) (add-one i))

-- the word of an index, from its start to the separator behind it
pub word-part : (s : ℕ) (t : List ℕ) (i a e : ℕ) → a ≡ word_at s t i → e ≡ end_at s t a → part t a (e - a) ≡ word_of s t i
word-part s t i a e ea ee =
    let long : e - a ≡ until (is s) (drop a t) = omega arith in
    ap (λ (n : ℕ). take n (drop a t)) long ∙ ap (λ (k : ℕ). part t k (until (is s) (drop k t))) ea
