-- FIPS 180-4 section 6.2.2 step 1: the words of the message schedule, each from those before it.
use Rattle.std.proofs.Common.{◌≡◌, ℕ, zero, suc, ◌+◌, ◌-◌, ◌<◌, ◌≤◌, List, [], ◌∷◌, length, get_or, drop, sym, ap, ◌∙◌, arith, length-append, length-drop, get_or-drop}
use lib.ListN.{get_or-append}
use lib.Seq.{get_or_at}
use Rattle.sha256_words.specs.Words.{◌⊞◌, σ₀, σ₁}
use Rattle.sha256_schedule.specs.Schedule.{next_word, window, W}

module _ (m : List ℕ) (sixteen : length m ≡ 16) where
  window-length : (t : ℕ) → length (window m t) ≡ 16
  unfolding window
  window-length zero = sixteen
  window-length (suc t) =
      rw (length-append (drop 1 (window m t)) (next_word (window m t) ∷ []), length-drop 1 (window m t), window-length t)

  -- a window is the one before it, moved on by one word
  window_on : (t i : ℕ) → i < 15 → get_or (window m (suc t)) i 0 ≡ get_or (window m t) (suc i) 0
  unfolding window
  window_on t i l =
      let inside : i < length (drop 1 (window m t)) = rw (length-drop 1 (window m t), window-length t) l in
      get_or-append (drop 1 (window m t)) (next_word (window m t) ∷ []) 0 i inside ∙ get_or-drop 1 (window m t) i 0 ∙ ap (λ (j : ℕ). get_or (window m t) j 0) (omega arith)

  -- the words of a window, by their places in the schedule
  window-word : (i t : ℕ) → i < 16 → get_or (window m t) i 0 ≡ W m (t + i)
  unfolding W
  window-word zero t l = ap (λ (j : ℕ). get_or (window m j) 0 0) (omega arith)
  window-word (suc i) t l =
      sym (window_on t i (omega arith)) ∙ window-word i (suc t) (omega arith) ∙ ap (W m) (omega arith)

  window-last : (t : ℕ) → get_or (window m (suc t)) 15 0 ≡ next_word (window m t)
  unfolding window
  window-last t =
      get_or_at (drop 1 (window m t)) (next_word (window m t)) [] 0 15 (rw (length-drop 1 (window m t), window-length t))

  -- W_t = M_t
  pub schedule-first : (t : ℕ) → t < 16 → get_or m t 0 ≡ W m t
  unfolding window
  schedule-first t l = window-word t 0 l ∙ ap (W m) (omega arith)

  -- W_t = σ1(W_(t-2)) + W_(t-7) + σ0(W_(t-15)) + W_(t-16)
  pub schedule-next : (t : ℕ) → 16 ≤ t → σ₁ (W m (t - 2)) ⊞ W m (t - 7) ⊞ σ₀ (W m (t - 15)) ⊞ W m (t - 16) ≡ W m t
  schedule-next t h =
      let u : ℕ = t - 16 in
      let place : (i : ℕ) → i < 16 → W m (t - (16 - i)) ≡ get_or (window m u) i 0 =
      λ i l. ap (W m) (omega arith) ∙ sym (window-word i u l) in
      rw (place 14 (omega arith), place 9 (omega arith), place 1 (omega arith), place 0 (omega arith))
      (sym (window-last u) ∙ window-word 15 (suc u) (omega arith) ∙ ap (W m) (omega arith))
