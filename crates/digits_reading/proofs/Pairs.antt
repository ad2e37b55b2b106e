-- The bytes that pairs of hex digits spell: how many there are, and each of them.
use Prim.Native.Nat.{ℕ, zero, suc, ◌+◌, ◌*◌, ◌/◌, ◌<◌, ◌≤◌}
use mathlib.Core.List.{List, [], ◌∷◌, ◌++◌}
use mathlib.Core.Path.{◌≡◌, refl, sym, ap, ap₂, ◌∙◌}
use native.Mathlib.Nat.{zero-add}
use native.Mathlib.Omega.{arith}
use lib.ListN.{length, get_or, take, drop, length-take}
use lib.Seq.{paste, take-take, take-length, length-take-le}
use Rattle.octets.proofs.Buffers.{lay-end, begun-front}
use Rattle.octets.specs.Octets.{begun}
use Rattle.digits_reading.specs.Digits.{pair, pairs, Decoded}

-- two characters a byte
pub pairs-length : (t : List ℕ) → length (pairs t) ≡ length t / 2
unfolding pairs
pairs-length [] = refl
pairs-length (a ∷ []) = refl
pairs-length (a ∷ b ∷ t) = let e : length (pairs t) ≡ length t / 2 = pairs-length t in omega arith

-- byte i is spelled by characters 2 i and 2 i + 1
pub pairs-at : (t : List ℕ) (i : ℕ) → 2 * i + 1 < length t → get_or (pairs t) i 0 ≡ pair (get_or t (2 * i) 0) (get_or t (2 * i + 1) 0)
unfolding pairs
pairs-at [] i h = absurd (omega arith)
pairs-at (a ∷ []) i h = absurd (omega arith)
pairs-at (a ∷ b ∷ t) zero h = refl
pairs-at (a ∷ b ∷ t) (suc i) h =
    let e : suc (suc (2 * i)) ≡ 2 * suc i = omega arith in
    let f : suc (suc (2 * i + 1)) ≡ 2 * suc i + 1 = omega arith in
    pairs-at t i (omega arith) ∙ ap₂ (λ (x y : ℕ). pair (get_or (a ∷ b ∷ t) x 0) (get_or (a ∷ b ∷ t) y 0)) e f

-- a loop that laid all of s over a buffer's start has begun the buffer with it
pub lay-begun : (d d₀ s : List ℕ) (i : ℕ) → i ≡ length s → d ≡ paste d₀ 0 s i → d ≡ begun s d₀
lay-begun d d₀ s i all is = is ∙ ap (paste d₀ 0 s) all ∙ lay-end d₀ 0 s ∙ ap (λ (k : ℕ). s ++ drop k d₀) (zero-add (length s))

-- what was decoded stands at the buffer's start: as many of the bytes as the buffer holds
pub decoded-front : {t before after : List ℕ} {n k : ℕ} → k ≡ length before → Decoded t before after n → take n after ≡ take k (pairs t)
decoded-front {t = t} {before = before} {n = n} {k = k} room d =
    let s = pairs t in
    let counted = d.counted in
    let few : n ≤ length s = omega arith in
    let fit : n ≤ k = omega arith in
    let all : n ≡ length (take k s) = omega (arith, length-take k s) in
    let front = ap (take n) d.holds ∙ begun-front (take n s) before n (length-take-le n s few) in
    front ∙ sym (take-take n k s fit) ∙ ap (λ (m : ℕ). take m (take k s)) all ∙ take-length (take k s)
