-- How long the key schedule is.
use Prim.Native.Nat.{ℕ, zero, suc, ◌+◌, ◌*◌}
use mathlib.Core.Path.{◌≡◌, refl, ◌∙◌}
use mathlib.Core.List.{List, ◌++◌}
use native.Mathlib.Omega.{arith}
use lib.ListN.{length, length-append}
use Rattle.aes_schedule.specs.Expansion.{next_word, grown, expansion}

pub next-length : (w : List ℕ) (i : ℕ) → length (next_word w i) ≡ 4
unfolding next_word
next-length w i = refl

grown-length : (n i : ℕ) (w : List ℕ) → length (grown n i w) ≡ length w + 4 * n
unfolding grown
grown-length zero i w = omega arith
grown-length (suc n) i w = grown-length n (i + 1) (w ++ next_word w i) ∙ omega (arith, length-append w (next_word w i), next-length w i)

pub expansion-length : (key : List ℕ) → length key ≡ 16 → length (expansion key) ≡ 176
unfolding expansion
expansion-length key e = grown-length 40 4 key ∙ omega arith
