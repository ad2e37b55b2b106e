-- FIPS 180-4 section 6.2.2 steps 2 to 4: the working variables, round by round, and the next hash value, a list of eight words.
use Rattle.std.specs.Prelude.{ℕ, zero, suc, List, [], ◌∷◌, map, get_or}
use Rattle.sha256_constants.specs.Constants.{K}
use Rattle.sha256_words.specs.Words.{◌⊞◌, Ch, Maj, Σ₀, Σ₁}

-- ---- 6.2.2 steps 2 and 3: the working variables a to h
abbrev pub T₁ : ℕ → ℕ → ℕ → ℕ → ℕ → ℕ → ℕ
T₁ e f g h k w = h ⊞ Σ₁ e ⊞ Ch e f g ⊞ k ⊞ w

abbrev pub T₂ : ℕ → ℕ → ℕ → ℕ
T₂ a b c = Σ₀ a ⊞ Maj a b c

unfoldable pub round : ℕ → ℕ → List ℕ → List ℕ
round k w v =
    let a = get_or v 0 0 in
    let b = get_or v 1 0 in
    let c = get_or v 2 0 in
    let d = get_or v 3 0 in
    let e = get_or v 4 0 in
    let f = get_or v 5 0 in
    let g = get_or v 6 0 in
    let h = get_or v 7 0 in
    (T₁ e f g h k w ⊞ T₂ a b c) ∷ a ∷ b ∷ c ∷ (d ⊞ T₁ e f g h k w) ∷ e ∷ f ∷ g ∷ []

-- after t rounds, where w is the schedule
unfoldable pub rounds : (ℕ → ℕ) → List ℕ → ℕ → List ℕ
rounds w v zero = v
rounds w v (suc t) = round (get_or K t 0) (w t) (rounds w v t)

-- ---- 6.2.2 step 4: the next hash value
abbrev pub added : List ℕ → List ℕ → List ℕ
added v h = map (λ i. get_or v i 0 ⊞ get_or h i 0) (0 ∷ 1 ∷ 2 ∷ 3 ∷ 4 ∷ 5 ∷ 6 ∷ 7 ∷ [])
