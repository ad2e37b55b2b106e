-- FIPS 180-4 section 6.2.2: the four steps of a block, put together.
use Prim.Native.Nat.{ℕ, ◌<◌}
use mathlib.Core.List.{List}
use mathlib.Core.Path.{◌≡◌, ap, ◌∙◌}
use lib.ListN.{get_or}
use Rattle.sha256_schedule.specs.Schedule.{words, W}
use Rattle.sha256_rounds.specs.Rounds.{rounds, added}
use Rattle.sha256_rounds.proofs.Turns.{rounds-same}
use Rattle.sha256.specs.Sha256.{compressed}

-- the rounds of a schedule that is in hand, added to the hash value
pub compressed-is : (h block m w v : List ℕ) → m ≡ words block → ((t : ℕ) → t < 64 → get_or w t 0 ≡ W m t) → v ≡ rounds (λ t. get_or w t 0) h 64
    → added v h ≡ compressed h block
unfolding compressed
compressed-is h block m w v em ew ev =
    ap (λ (u : List ℕ). added u h) (ev ∙ rounds-same (λ t. get_or w t 0) (W m) h 64 ew ∙ ap (λ (b : List ℕ). rounds (W b) h 64) em)
