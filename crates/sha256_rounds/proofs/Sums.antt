-- FIPS 180-4 section 6.2.2 steps 3 and 4: a round from its sums, and the eight sums of the next hash value.
use Rattle.std.proofs.Common.{◌≡◌, ℕ, ◌<◌, List, [], ◌∷◌, length, get_or, sym, ap, ◌∙◌, ap₂, arith, ext_get_or}
use Rattle.std.proofs.lemmas.List.{get_or-map}
use Rattle.octets.proofs.Rule.{Filled, filled}
use Rattle.sha256_words.specs.Words.{◌⊞◌}
use Rattle.sha256_rounds.specs.Rounds.{T₁, T₂, round, added}

-- the variables move on by one place, and two of them are sums
pub rounded : (k w : ℕ) (v : List ℕ) {t₁ t₂ : ℕ} → t₁ ≡ T₁ (get_or v 4 0) (get_or v 5 0) (get_or v 6 0) (get_or v 7 0) k w → t₂ ≡ T₂ (get_or v 0 0) (get_or v 1 0) (get_or v 2 0)
    → (t₁ ⊞ t₂) ∷ get_or v 0 0 ∷ get_or v 1 0 ∷ get_or v 2 0 ∷ (get_or v 3 0 ⊞ t₁) ∷ get_or v 4 0 ∷ get_or v 5 0 ∷ get_or v 6 0 ∷ [] ≡ round k w v
unfolding round
rounded k w v =
    ap₂ (λ (x y : ℕ). (x ⊞ y) ∷ get_or v 0 0 ∷ get_or v 1 0 ∷ get_or v 2 0 ∷ (get_or v 3 0 ⊞ x) ∷ get_or v 4 0 ∷ get_or v 5 0 ∷ get_or v 6 0 ∷ [])

-- ---- the eight sums of step 4
abbrev places : List ℕ
places = 0 ∷ 1 ∷ 2 ∷ 3 ∷ 4 ∷ 5 ∷ 6 ∷ 7 ∷ []

abbrev pub sum_at : List ℕ → List ℕ → ℕ → ℕ
sum_at v h i = get_or v i 0 ⊞ get_or h i 0

-- eight entries that are the sums
pub added_is : (v h r : List ℕ) → length r ≡ 8 → Filled (sum_at v h) r 8 → r ≡ added v h
added_is v h r all sums =
    ext_get_or 0 r (added v h) all (λ i l. let k : i < 8 = omega arith in sums i k ∙ sym (get_or-map (sum_at v h) places i 0 0 k ∙ ap (sum_at v h) (filled (λ i. i) places tt i k)))
