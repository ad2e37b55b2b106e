-- FIPS 180-4 section 5.2.1: the parts of a list, and the sixteen words of a block.
use Rattle.std.proofs.Common.{◌≡◌, ℕ, zero, suc, ◌+◌, ◌*◌, ◌<◌, List, map, length, get_or, take, drop, sym, refl, ap, ◌∙◌, le_of_suc-le-suc, not-suc-le-zero, arith, drop-drop, ext_get_or}
use lib.ListN.{length-map}
use Rattle.octets.specs.Octets.{number, part}
use Rattle.octets.proofs.Rule.{Filled}
use Rattle.sha256_schedule.specs.Schedule.{parsed, words}

pub parsed-length : (n size : ℕ) (s : List ℕ) → length (parsed n size s) ≡ n
unfolding parsed
parsed-length zero size s = refl
parsed-length (suc n) size s = ap suc (parsed-length n size (drop size s))

number_at : (n : ℕ) (s : List ℕ) (i : ℕ) → i < n → get_or (map number (parsed n 4 s)) i 0 ≡ number (part s (4 * i) 4)
unfolding parsed
number_at zero s i l = absurd (not-suc-le-zero l)
number_at (suc n) s zero l = refl
number_at (suc n) s (suc i) l =
    let place : 4 + 4 * i ≡ 4 * suc i = omega arith in
    number_at n (drop 4 s) i (le_of_suc-le-suc l) ∙ ap (λ (r : List ℕ). number (take 4 r)) (drop-drop (4 * i) 4 s ∙ ap (λ (p : ℕ). drop p s) place)

pub words-length : (block : List ℕ) → length (words block) ≡ 16
unfolding words
words-length block = length-map (parsed 16 4 block) number ∙ parsed-length 16 4 block

-- sixteen entries that are the words of a block
pub words_are : (m block : List ℕ) → length m ≡ 16 → Filled (λ i. number (part block (4 * i) 4)) m 16 → m ≡ words block
unfolding words
words_are m block sixteen h =
    ext_get_or 0 m (words block) (sixteen ∙ sym (words-length block)) (λ i l. let k : i < 16 = omega arith in h i k ∙ sym (number_at 16 block i k))
