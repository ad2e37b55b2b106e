-- The key schedule as it grows in a buffer of 176 bytes, word by word.
use Prim.Native.Nat.{ℕ, suc, ◌+◌, ◌-◌, ◌*◌, ◌%◌, ◌≤◌, ◌<◌}
use mathlib.Core.Path.{◌≡◌, sym, ap, ap₂, ◌∙◌}
use mathlib.Core.List.{List, ◌++◌}
use native.Mathlib.Omega.{arith}
use lib.Dec.{eqb}
use lib.ListN.{length, get_or, take, length-append}
use lib.Seq.{get_or-take, take_at, take_all, length-take-le}
use Rattle.octets.specs.Octets.{laid}
use Rattle.aes_schedule.specs.Expansion.{word, turned, next_word, grown, expansion}
use Rattle.aes_state.specs.State.{sum}
use Rattle.aes_state.proofs.Steps.{four}
use Rattle.aes_schedule.proofs.Laws.{next-length}

-- a word of the front
word-take : (w : List ℕ) (i j : ℕ) → j < i → word (take (4 * i) w) j ≡ word w j
word-take w i j l = four (byte 0 (omega arith)) (byte 1 (omega arith)) (byte 2 (omega arith)) (byte 3 (omega arith))
  where
    byte : (r : ℕ) → r < 4 → get_or (take (4 * i) w) (4 * j + r) 0 ≡ get_or w (4 * j + r) 0
    byte r h = get_or-take (4 * i) w (4 * j + r) 0 (omega arith)

-- word i depends on the words before it alone
next-take : (w : List ℕ) (i : ℕ) → 4 ≤ i → next_word (take (4 * i) w) i ≡ next_word w i
unfolding next_word
next-take w i l = ap₂ (λ (a b : List ℕ). sum a (turned (eqb (i % 4) 0) i b)) (word-take w i (i - 4) (omega arith)) (word-take w i (i - 1) (omega arith))

-- the key at the start of a buffer
pub schedule-start : (d key : List ℕ) → length key ≡ 16 → grown 40 4 (take (4 * 4) (laid d 0 key)) ≡ expansion key
unfolding expansion
schedule-start d key e = ap (grown 40 4) (take_at key _ 16 e)

-- one word more: what is left to make from the longer front is what was left before
pub schedule-turn : (w w' next : List ℕ) (i : ℕ) → 4 ≤ i → i < 44 → length w ≡ 176 → next ≡ next_word w i → w' ≡ laid w (4 * i) next
    → grown (44 - (i + 1)) (i + 1) (take (4 * (i + 1)) w') ≡ grown (44 - i) i (take (4 * i) w)
unfolding grown
schedule-turn w w' next i low high len new lay =
    let left : suc (44 - (i + 1)) ≡ 44 - i = omega arith in
    let four : length next ≡ 4 = ap length new ∙ next-length w i in
    let front : length (take (4 * i) w ++ next) ≡ 4 * (i + 1) = simp length-append (omega (arith, length-take-le (4 * i) w (omega arith))) in
    let longer : take (4 * (i + 1)) w' ≡ take (4 * i) w ++ next_word (take (4 * i) w) i =
    ap (take (4 * (i + 1))) lay ∙ take_at (take (4 * i) w ++ next) _ _ front ∙ ap (λ (n : List ℕ). take (4 * i) w ++ n) (new ∙ sym (next-take w i low)) in
    ap (grown (44 - (i + 1)) (i + 1)) longer ∙ ap (λ (n : ℕ). grown n i (take (4 * i) w)) left

-- all 44 words
pub schedule-end : (w : List ℕ) (i : ℕ) → i ≡ 44 → length w ≡ 176 → w ≡ grown (44 - i) i (take (4 * i) w)
unfolding grown
schedule-end w i e len =
    let all : take (4 * i) w ≡ w = take_all (4 * i) w (omega arith) in
    let none : 44 - i ≡ 0 = omega arith in
    sym (ap₂ (λ (n : ℕ) (v : List ℕ). grown n i v) none all)
