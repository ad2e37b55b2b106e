-- The words that are counted are the words that are found.
use Prim.Native.Nat.{ℕ, zero, suc, ◌+◌, ◌-◌, ◌<◌, ◌≤◌}
use mathlib.Core.Bool.{Bool, true, false, false≢true}
use mathlib.Core.List.{List, []}
use mathlib.Core.Logic.{◌⊎◌, inl, inr, ⊎_elim}
use mathlib.Core.Path.{◌≡◌, refl, sym, ap, subst, ◌∙◌}
use native.Mathlib.Omega.{arith}
use borrow.Author.Tests.{eqb-true, eqb-false, ltb-true, ltb-false, not-true, not-false}
use lib.Dec.{eqb, ltb}
use lib.ListN.{length, get_or, take, drop, length-take, length-drop, drop_of_length-le}
use lib.Seq.{take-nil}
use Rattle.terminal_words.specs.Words.{until, is, is_not, end_at, past_at, word_at, word_of, starts_at, words_up_to, word_count}
use Rattle.terminal_words.proofs.Separators.{until-turn, until-stops, until-ends, starts-not, starts_first, starts-behind, count-one, count_none}

module _ (s : ℕ) (t : List ℕ) where
  -- ---- from a place on, up to the first character that a test finds, where no word starts on the way
  record Walked (test : ℕ → Bool) (p q : ℕ) : Type 0 where
    inside : q ≤ length t
    counted : words_up_to s t q ≡ words_up_to s t p
    ahead : q < length t → test (get_or t q 0) ≡ true
    behind : p < q → test (get_or t (q - 1) 0) ≡ false

  module _ (test : ℕ → Bool) where
    stays : (p q : ℕ) → q ≡ p → p ≤ length t → (p < length t → test (get_or t p 0) ≡ true) → Walked test p q
    stays p q e h f =
        subst (Walked test p) (sym e) (record { inside = h; counted = refl; ahead = f; behind = λ l. absurd (omega arith) })

    goes_on : (p q : ℕ) → p + 1 ≤ q → test (get_or t p 0) ≡ false → starts_at s t p ≡ false → Walked test (p + 1) q → Walked test p q
    goes_on p q m e none rest = record {
      inside = rest.inside;
      counted = rest.counted ∙ count_none s t p none;
      ahead = rest.ahead;
      behind = λ n. by (ltb (p + 1) q) refl;
    }
      where
        by : (b : Bool) → ltb (p + 1) q ≡ b → test (get_or t (q - 1) 0) ≡ false
        by true h = rest.behind (ltb-true (p + 1) q h)
        by false h = let last : q - 1 ≡ p = omega (arith, ltb-false (p + 1) q h) in rw last e

    -- what holds at a place keeps a word from starting there, and holds at the next
    module _ (Holds : ℕ → Type 0)
        (keeps : (k : ℕ) → k < length t → test (get_or t k 0) ≡ false → Holds k → (starts_at s t k ≡ false) × Holds (k + 1)) where
      walks : (left p : ℕ) → p ≤ length t → length t ≤ p + left → Holds p → Walked test p (p + until test (drop p t))
      walks zero p h l w = stays p _ (omega (arith, until-ends test t p (omega arith))) h (λ n. absurd (omega arith))
      walks (suc left) p h l w = by (walks left (p + 1)) (ltb p (length t)) refl (test (get_or t p 0)) refl
        where
          by : (p + 1 ≤ length t → length t ≤ p + 1 + left → Holds (p + 1) → Walked test (p + 1) (p + 1 + until test (drop (p + 1) t)))
              → (more : Bool) → ltb p (length t) ≡ more → (found : Bool) → test (get_or t p 0) ≡ found → Walked test p (p + until test (drop p t))
          by rest false m found e =
              let end = ltb-false p (length t) m in
              stays p _ (omega (arith, until-ends test t p end)) h (λ n. absurd (omega arith))
          by rest true m true e = stays p _ (omega (arith, until-stops test t p (ltb-true p (length t) m) e)) h (λ n. e)
          by rest true m false e =
              let more = ltb-true p (length t) m in
              let next : p + 1 + until test (drop (p + 1) t) ≡ p + until test (drop p t) = omega (arith, until-turn test t p more e) in
              let kept = keeps p more e w in
              goes_on p _ (omega arith) e kept.0 (subst (Walked test (p + 1)) next (rest (omega arith) (omega arith) kept.1))

  -- over separators
  passes : (p : ℕ) → p ≤ length t → Walked (is_not s) p (past_at s t p)
  passes p h =
      walks (is_not s) (λ k. Unit {0}) (λ k l e w. (starts-not s t k l (eqb-true _ _ (not-false _ e)), tt)) (length t) p h (omega arith) tt

  -- over the rest of a word, from behind a character of it on
  abbrev Within : ℕ → Type 0
  Within k = (1 ≤ k) × (eqb (get_or t (k - 1) 0) s ≡ false)

  runs : (p : ℕ) → p ≤ length t → Within p → Walked (is s) p (end_at s t p)
  runs p h w = walks (is s) Within keeps (length t) p h (omega arith) w
    where
      keeps : (k : ℕ) → k < length t → eqb (get_or t k 0) s ≡ false → Within k → (starts_at s t k ≡ false) × Within (k + 1)
      keeps k l e w =
          let here : k + 1 - 1 ≡ k = omega arith in
          let some = w.0 in
          (starts-behind s t k l (eqb-false (get_or t k 0) s e) (λ z. absurd (omega arith)) ∙ w.1, (omega arith, rw here e))

  -- ---- where the word of an index stands, and how many start before it
  record Found (i p : ℕ) : Type 0 where
    inside : p < length t
    letter : eqb (get_or t p 0) s ≡ false
    starts : starts_at s t p ≡ true
    counted : words_up_to s t p ≡ i

  record Gone (i p : ℕ) : Type 0 where
    end : p ≡ length t
    counted : word_count s t ≤ i

  judged : (i a p : ℕ) → Walked (is_not s) a p → words_up_to s t a ≡ i → (p < length t → (p ≡ 0) ⊎ (a < p)) → Found i p ⊎ Gone i p
  judged i a p r c first = by (ltb p (length t)) refl
    where
      by : (b : Bool) → ltb p (length t) ≡ b → Found i p ⊎ Gone i p
      by true m =
          let more = ltb-true p (length t) m in
          let letter = not-true _ (r.ahead more) in
          let other = eqb-false (get_or t p 0) s letter in
          let starts : starts_at s t p ≡ true =
          ⊎_elim
          (λ z. starts_first s t p more other z)
          (λ n. starts-behind s t p more other (λ z. absurd (omega arith)) ∙ not-false _ (r.behind n))
          (first more) in
          inl (record { inside = more; letter = letter; starts = starts; counted = r.counted ∙ c })
      by false m =
          let end : p ≡ length t = omega (arith, ltb-false p (length t) m, r.inside) in
          inr (record { end = end; counted = omega (arith, ap (words_up_to s t) end, r.counted, c) })

  first-or : (p : ℕ) → (p ≡ 0) ⊎ (0 < p)
  first-or zero = inl refl
  first-or (suc p) = inr (omega arith)

  -- over the rest of a word, and the separators behind it
  next_word : (i p : ℕ) → Found i p → Found (suc i) (past_at s t (end_at s t p)) ⊎ Gone (suc i) (past_at s t (end_at s t p))
  next_word i p f =
      let here : p + 1 - 1 ≡ p = omega arith in
      let inside = f.inside in
      let r = runs (p + 1) (omega arith) (omega arith, rw here f.letter) in
      let same : end_at s t (p + 1) ≡ end_at s t p = omega (arith, until-turn (is s) t p inside f.letter) in
      let ran : Walked (is s) (p + 1) (end_at s t p) = subst (Walked (is s) (p + 1)) same r in
      let one = count-one s t p f.starts in
      let q = passes (end_at s t p) ran.inside in
      judged (suc i) (end_at s t p) _ q (omega (arith, ran.counted, one, f.counted)) (λ m. inr (moved (end_at s t p) _ (omega arith) ran q m))
    where
      moved : (e q : ℕ) → e ≤ q → Walked (is s) (p + 1) e → Walked (is_not s) e q → q < length t → e < q
      moved e q le ran past m = by (ltb e q) refl
        where
          by : (b : Bool) → ltb e q ≡ b → e < q
          by true h = ltb-true e q h
          by false h =
              let same : e ≡ q = omega (arith, ltb-false e q h) in
              let is = subst (λ (k : ℕ). eqb (get_or t k 0) s ≡ true) same (ran.ahead (omega arith)) in
              absurd (false≢true (sym (not-true _ (past.ahead m)) ∙ is))

  stands : (i : ℕ) → Found i (word_at s t i) ⊎ Gone i (word_at s t i)
  unfolding word_at words_up_to
  stands zero = judged 0 0 _ (passes 0 (omega arith)) refl (λ m. first-or _)
  stands (suc i) =
      ⊎_elim
      (λ f. next_word i (word_at s t i) f)
      (λ g. inr (record { end = end g.end; counted = omega (arith, g.counted) }))
      (stands i)
    where
      end : word_at s t i ≡ length t → past_at s t (end_at s t (word_at s t i)) ≡ length t
      end e =
          let stop : end_at s t (word_at s t i) ≡ length t = omega (arith, until-ends (is s) t (word_at s t i) (omega arith)) in
          omega (arith, until-ends (is_not s) t (end_at s t (word_at s t i)) (omega arith))

  more-counted : (p k : ℕ) → words_up_to s t p ≤ words_up_to s t (p + k)
  more-counted p zero =
      let none : p + 0 ≡ p = omega arith in
      omega (arith, ap (words_up_to s t) none)
  more-counted p (suc k) = by (more-counted p k) (starts_at s t (p + k)) refl
    where
      by : words_up_to s t p ≤ words_up_to s t (p + k) → (b : Bool) → starts_at s t (p + k) ≡ b → words_up_to s t p ≤ words_up_to s t (p + suc k)
      by before true h =
          let one : p + suc k ≡ p + k + 1 = omega arith in
          omega (arith, ap (words_up_to s t) one, count-one s t (p + k) h)
      by before false h =
          let one : p + suc k ≡ p + k + 1 = omega arith in
          omega (arith, ap (words_up_to s t) one, count_none s t (p + k) h)

  -- ---- the word of an index is there just when its index is below the count
  pub word-there : (i : ℕ) → i < word_count s t → 1 ≤ length (word_of s t i)
  word-there i l = ⊎_elim found (λ g. absurd (omega (arith, g.counted))) (stands i)
    where
      found : Found i (word_at s t i) → 1 ≤ length (word_of s t i)
      found f =
          let p = word_at s t i in
          let inside = f.inside in
          omega (arith, length-take (until (is s) (drop p t)) (drop p t), length-drop p t, until-turn (is s) t p inside f.letter)

  pub word-gone : (i : ℕ) → word_count s t ≤ i → word_of s t i ≡ []
  word-gone i l = ⊎_elim found (λ g. gone g.end) (stands i)
    where
      found : Found i (word_at s t i) → word_of s t i ≡ []
      found f =
          let p = word_at s t i in
          let inside = f.inside in
          let rest : p + 1 + (length t - (p + 1)) ≡ length t = omega arith in
          let all = ap (words_up_to s t) rest in
          absurd (omega (arith, count-one s t p f.starts, f.counted, more-counted (p + 1) (length t - (p + 1)), all))

      gone : word_at s t i ≡ length t → word_of s t i ≡ []
      gone e =
          let end : length t ≤ word_at s t i = omega arith in
          ap (take (until (is s) (drop (word_at s t i) t))) (drop_of_length-le t end) ∙ take-nil (until (is s) (drop (word_at s t i) t))
