-- FIPS 180-4 section 6.2.2 step 3: a round more at each turn, and the rounds see only the words of the schedule below their number.
use Rattle.std.proofs.Common.{◌≡◌, ℕ, zero, suc, ◌+◌, ◌<◌, List, get_or, refl, ◌∙◌, ap₂, add-one, arith}
use Rattle.sha256_constants.specs.Constants.{K}
use Rattle.sha256_rounds.specs.Rounds.{round, rounds}

pub rounds-same : (f g : ℕ → ℕ) (v : List ℕ) (n : ℕ) → ((t : ℕ) → t < n → f t ≡ g t) → rounds f v n ≡ rounds g v n
unfolding rounds
rounds-same f g v zero h = refl
rounds-same f g v (suc n) h =
    ap₂ (λ (w : ℕ) (u : List ℕ). round (get_or K n 0) w u) (h n (omega arith)) (rounds-same f g v n (λ t l. h t (omega arith)))

-- a turn of a loop over the rounds
pub rounds-turn : (f : ℕ → ℕ) (h k v r : List ℕ) (t : ℕ) → k ≡ K → v ≡ rounds f h t → r ≡ round (get_or k t 0) (f t) v → r ≡ rounds f h (t + 1)
unfolding rounds
rounds-turn f h k v r t ek ev er = er ∙ rw (ek, ev, add-one t)
