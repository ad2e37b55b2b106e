-- The bytes one after the other, each part closed, are GHASH of the parts padded to whole blocks.
use Prim.Native.Nat.{ℕ, zero, suc, ◌+◌, ◌-◌, ◌*◌, ◌%◌, ◌^◌, ◌≤◌, ◌<◌}
use mathlib.Core.Path.{◌≡◌, refl, sym, ap, ap₂, ◌∙◌}
use mathlib.Core.Logic.{⊎_elim}
use mathlib.Core.List.{List, [], ◌∷◌, ◌++◌, foldl, foldl-append}
use native.Mathlib.Nat.{add-zero, mul_assoc, zero-mul, zero-add, eq-or-lt_of_le, le_of_suc-le-suc}
use native.Mathlib.Numerals.{add-one}
use native.Mathlib.Omega.{arith}
use borrow.Author.Tests.{lt-ltb, le-ltb}
use lib.Bits.{bit_xor, xor_block, xor_zero_r, xor_shifted}
use lib.ListN.{length, get_or, take, drop, replicate, length-drop, length-replicate, take-append-drop, drop_of_length-le}
use lib.Pow.{pow-add, pow_pos}
use lib.Seq.{length-take-le, drop-cons, drop-drop}
use Rattle.octets.specs.Octets.{Bytes, number}
use Rattle.octets.proofs.Bytes.{take-bytes, drop-bytes}
use Rattle.octets.proofs.Numbers.{number-none, number-cons, number-below}
use Rattle.octets.proofs.Xor.{xor_assoc}
use Rattle.gcm_field.specs.Field.{◌•◌}
use Rattle.gcm_hash.specs.Hash.{State, blocks, chained, put, taken, absorbed, closed}

abbrev pub at : ℕ → ℕ → State
at y k = record { y = y; filled = k }

-- ---- absorbing in parts
pub absorbed-append : (h : ℕ) (g : State) (s t : List ℕ) → absorbed h g (s ++ t) ≡ absorbed h (absorbed h g s) t
unfolding absorbed
absorbed-append h g s t = foldl-append (taken h) g s t

pub absorbed-byte : (h : ℕ) (g g' : State) (s : List ℕ) (i : ℕ) → i < length s → g' ≡ taken h g (get_or s i 0) → absorbed h g' (drop (i + 1) s) ≡ absorbed h g (drop i s)
unfolding absorbed
absorbed-byte h g g' s i l e = rw (e, add-one i, drop-cons s i 0 l)

pub absorbed-end : (h : ℕ) (g : State) (s : List ℕ) (i : ℕ) → length s ≤ i → absorbed h g (drop i s) ≡ g
unfolding absorbed
absorbed-end h g s i l = ap (absorbed h g) (drop_of_length-le s l)

-- ---- one byte
pub taken-inner : (h y k b : ℕ) → k < 15 → taken h (at y k) b ≡ at (put y k b) (k + 1)
unfolding taken
taken-inner h y k b l = rw (lt-ltb k 15 l)

pub taken-last : (h y k b : ℕ) → k ≡ 15 → taken h (at y k) b ≡ at (put y k b • h) 0
unfolding taken
taken-last h y k b e = rw (le-ltb k 15 (omega arith))

-- ---- the bytes up to the end of a block
added : ℕ → ℕ → List ℕ → ℕ
added y k [] = y
added y k (b ∷ s) = added (put y k b) (suc k) s

to_the_end : (h y k b : ℕ) (s : List ℕ) → k + length (b ∷ s) ≡ 16 → absorbed h (at y k) (b ∷ s) ≡ at (added y k (b ∷ s) • h) 0
unfolding absorbed added
to_the_end h y k b [] e = taken-last h y k b (omega arith)
to_the_end h y k b (a ∷ s) e =
    let l : k < 15 = omega arith in
    let more : suc k + length (a ∷ s) ≡ 16 = omega arith in
    ap (λ (g : State). foldl (taken h) g (a ∷ s)) (taken-inner h y k b l ∙ ap (at (put y k b)) (add-one k)) ∙ to_the_end h (put y k b) (suc k) a s more

xor-scaled : (p q m : ℕ) → bit_xor (p * 2 ^ m) (q * 2 ^ m) ≡ bit_xor p q * 2 ^ m
xor-scaled p q m =
    ap₂ bit_xor (sym (add-zero (p * 2 ^ m))) (sym (add-zero (q * 2 ^ m))) ∙ xor_block m p q 0 0 (pow_pos m) (pow_pos m) ∙ add-zero (bit_xor p q * 2 ^ m)

-- bytes added one by one are their number added, e places before the end
added_is : (y k : ℕ) (s : List ℕ) (e : ℕ) → Bytes s → k + length s + e ≡ 16 → added y k s ≡ bit_xor y (number s * 2 ^ (8 * e))
unfolding added put
added_is y k [] e bs l = sym (ap (λ (n : ℕ). bit_xor y (n * 2 ^ (8 * e))) number-none ∙ ap (bit_xor y) (zero-mul (2 ^ (8 * e))) ∙ xor_zero_r y)
added_is y k (b ∷ s) e bs l =
    let n : ℕ = 8 * length s in
    let m : ℕ = 8 * e in
    let more : suc k + length s + e ≡ 16 = omega arith in
    let place : 8 * (15 - k) ≡ n + m = omega arith in
    let low : number s < 2 ^ n = number-below s (λ i. bs (suc i)) in
    added_is (put y k b) (suc k) s e (λ i. bs (suc i)) more
    ∙ xor_assoc y (b * 2 ^ (8 * (15 - k))) (number s * 2 ^ m)
    ∙ ap (bit_xor y)
    (ap (λ (p : ℕ). bit_xor p (number s * 2 ^ m)) (ap (λ (q : ℕ). b * 2 ^ q) place ∙ ap (λ (q : ℕ). b * q) (pow-add 2 n m) ∙ sym (mul_assoc b (2 ^ n) (2 ^ m)))
    ∙ xor-scaled (b * 2 ^ n) (number s) m
    ∙ ap (λ (q : ℕ). q * 2 ^ m) (xor_shifted b n (number s) low ∙ sym (number-cons b s)))

-- ---- whole blocks
pub block : (h y : ℕ) (s : List ℕ) → Bytes s → length s ≡ 16 → absorbed h (at y 0) s ≡ at (bit_xor y (number s) • h) 0
block h y [] bs l = absurd (omega arith)
block h y (b ∷ s) bs l =
    let one : number (b ∷ s) * 2 ^ (8 * 0) ≡ number (b ∷ s) = omega arith in
    to_the_end h y 0 b s (zero-add (length (b ∷ s)) ∙ l)
    ∙ ap (λ (x : ℕ). at (x • h) 0) (added_is y 0 (b ∷ s) 0 bs (omega arith) ∙ ap (bit_xor y) one)

-- a turn of a loop over a slice that takes a whole block
pub absorbed-block : (h y y' : ℕ) (s : List ℕ) (i : ℕ) → Bytes s → i + 16 ≤ length s → y' ≡ bit_xor y (number (take 16 (drop i s))) • h
    → absorbed h (at y' 0) (drop (i + 16) s) ≡ absorbed h (at y 0) (drop i s)
absorbed-block h y y' s i bs l e =
    let t : List ℕ = drop i s in
    let long : 16 ≤ length t = rw (length-drop i s) (omega arith) in
    ap₂ (λ (x : ℕ) (r : List ℕ). absorbed h (at x 0) r) e (sym (drop-drop 16 i s))
    ∙ ap (λ (g : State). absorbed h g (drop 16 t)) (sym (block h y (take 16 t) (take-bytes 16 t (drop-bytes i s bs)) (length-take-le 16 t long)))
    ∙ sym (absorbed-append h (at y 0) (take 16 t) (drop 16 t))
    ∙ ap (absorbed h (at y 0)) (take-append-drop 16 t)

pub whole : (h n y : ℕ) (s : List ℕ) → Bytes s → length s ≡ n * 16 → absorbed h (at y 0) s ≡ at (chained h y (blocks n s)) 0
unfolding absorbed blocks chained
whole h zero y [] bs l = refl
whole h zero y (x ∷ s) bs l = absurd (omega arith)
whole h (suc n) y s bs l =
    let long : 16 ≤ length s = omega arith in
    ap (absorbed h (at y 0)) (sym (take-append-drop 16 s))
    ∙ absorbed-append h (at y 0) (take 16 s) (drop 16 s)
    ∙ ap (λ (g : State). absorbed h g (drop 16 s)) (block h y (take 16 s) (take-bytes 16 s bs) (length-take-le 16 s long))
    ∙ whole h n (bit_xor y (number (take 16 s)) • h) (drop 16 s) (drop-bytes 16 s bs) (length-drop 16 s ∙ omega arith)

-- ---- closing is as good as the zeros that are missing
added-zeros : (y k n : ℕ) → added y k (replicate n 0) ≡ y
unfolding added put
added-zeros y k zero = refl
added-zeros y k (suc n) =
    ap (λ (x : ℕ). added x (suc k) (replicate n 0)) (ap (bit_xor y) (zero-mul (2 ^ (8 * (15 - k)))) ∙ xor_zero_r y) ∙ added-zeros y (suc k) n

zeros : (h y k n : ℕ) → k + n ≡ 16 → 0 < n → absorbed h (at y k) (replicate n 0) ≡ at (y • h) 0
zeros h y k zero e l = absurd (omega arith)
zeros h y k (suc n) e l =
    to_the_end h y k 0 (replicate n 0) (ap (λ (m : ℕ). k + m) (length-replicate (suc n) 0) ∙ e)
    ∙ ap (λ (x : ℕ). at (x • h) 0) (added-zeros y k (suc n))

pub closed_some : (h y k : ℕ) → 0 < k → closed h (at y k) ≡ at (y • h) 0
unfolding closed
closed_some h y k l = rw (lt-ltb 0 k l)

pub closed_none : (h y k : ℕ) → k ≤ 0 → closed h (at y k) ≡ at y k
unfolding closed
closed_none h y k l = rw (le-ltb 0 k l)

pub closed_is : (h y k : ℕ) → k < 16 → closed h (at y k) ≡ absorbed h (at y k) (replicate ((16 - k) % 16) 0)
unfolding absorbed
closed_is h y zero l = closed_none h y 0 (omega arith)
closed_is h y (suc k) l =
    let e : (16 - suc k) % 16 ≡ 16 - suc k = omega arith in
    closed_some h y (suc k) (omega arith)
    ∙ sym (ap (λ (n : ℕ). absorbed h (at y (suc k)) (replicate n 0)) e ∙ zeros h y (suc k) (16 - suc k) (omega arith) (omega arith))

-- ---- how far the present block is filled
taken-filled : (h : ℕ) (g : State) (b : ℕ) → g.filled < 16 → (taken h g b).filled ≡ (g.filled + 1) % 16
taken-filled h g b l =
    ⊎_elim (λ (e : g.filled ≡ 15). ap (λ (x : State). x.filled) (taken-last h g.y g.filled b e) ∙ omega arith)
    (λ (e : g.filled < 15). ap (λ (x : State). x.filled) (taken-inner h g.y g.filled b e) ∙ omega arith)
    (eq-or-lt_of_le (le_of_suc-le-suc l))

pub absorbed-filled : (h : ℕ) (g : State) (s : List ℕ) → g.filled < 16 → (absorbed h g s).filled ≡ (g.filled + length s) % 16
unfolding absorbed
absorbed-filled h g [] l = omega arith
absorbed-filled h g (b ∷ s) l =
    let e : (taken h g b).filled ≡ (g.filled + 1) % 16 = taken-filled h g b l in
    absorbed-filled h (taken h g b) s (omega arith) ∙ omega arith
