-- The product a bit at a time over two words, and GHASH a block at a time.
use Prim.Native.Nat.{ℕ, zero, suc, ◌+◌, ◌-◌, ◌*◌, ◌/◌, ◌%◌, ◌^◌, ◌<◌}
use mathlib.Core.Path.{◌≡◌, refl, sym, ap, ap₂, ◌∙◌}
use mathlib.Core.List.{List, ◌++◌}
use native.Mathlib.Nat.{zero-mul, one-mul}
use native.Mathlib.Omega.{arith}
use lib.Bits.{bit_xor}
use lib.ListN.{length, drop, length-append}
use lib.Seq.{take_at, drop_at}
use Rattle.octets.specs.Octets.{number}
use Rattle.gcm_field.specs.Field.{bit, next, steps, ◌•◌, nexts}
use Rattle.gcm_hash.specs.Hash.{blocks, chained, ghash}
use Rattle.gcm_field.proofs.Linear.{steps-add, steps_low}

-- ---- the product
-- a digit times a number is no more than the number
pub digit-times : (d n m : ℕ) → d < 2 → n < m → d * n < m
digit-times zero n m l h = omega (arith, zero-mul n)
digit-times (suc zero) n m l h = omega (arith, one-mul n)
digit-times (suc (suc d)) n m l h = absurd (omega arith)

-- one turn: the bit of weight 2 ^ (n - 1) is looked at, and V goes on
pub steps-turn : (n w z v z' v' : ℕ) → 0 < n → z' ≡ bit_xor z (w / 2 ^ (n - 1) % 2 * v) → v' ≡ next v → steps (n - 1) w z' v' ≡ steps n w z v
unfolding steps bit
steps-turn n w z v z' v' l ez ev =
    let e : suc (n - 1) ≡ n = omega arith in
    ap₂ (steps (n - 1) w) ez ev ∙ ap (λ (m : ℕ). steps m w z v) e

pub nexts-turn : (n v v' : ℕ) → 0 < n → v' ≡ next v → nexts (n - 1) v' ≡ nexts n v
unfolding nexts
nexts-turn n v v' l ev =
    let e : suc (n - 1) ≡ n = omega arith in
    ap (nexts (n - 1)) ev ∙ ap (λ (m : ℕ). nexts m v) e

-- the bits of the high word and then those of the low one
pub both_words : (hi lo h : ℕ) → lo < 2 ^ 64 → steps 64 lo (steps 64 hi 0 h) (nexts 64 h) ≡ (hi * 2 ^ 64 + lo) • h
unfolding ◌•◌
both_words hi lo h l =
    let x : ℕ = hi * 2 ^ 64 + lo in
    let high : hi ≡ x / 2 ^ 64 = omega arith in
    let low : lo ≡ x % 2 ^ 64 = omega arith in
    ap₂ (λ (a b : ℕ). steps 64 a (steps 64 b 0 h) (nexts 64 h)) low high
    ∙ steps_low 64 x (steps 64 (x / 2 ^ 64) 0 h) (nexts 64 h)
    ∙ sym (steps-add 64 64 x 0 h)

-- ---- GHASH
-- what is left to chain
abbrev pub on_from : ℕ → ℕ → List ℕ → ℕ
on_from h y s = chained h y (blocks (length s / 16) s)

pub hash-start : (h : ℕ) (s : List ℕ) → on_from h 0 s ≡ ghash h s
unfolding ghash
hash-start h s = refl

-- a turn: the block b stands in front of what is left
pub hash-turn : (h y y' : ℕ) (s b t : List ℕ) → s ≡ b ++ t → length b ≡ 16 → y' ≡ bit_xor y (number b) • h → on_from h y' t ≡ on_from h y s
unfolding chained blocks
hash-turn h y y' s b t es size e =
    let len = length-append b t in
    let more : suc (length t / 16) ≡ length (b ++ t) / 16 = omega arith in
    ap₂ (λ (x : ℕ) (r : List ℕ). chained h x (blocks (length t / 16) r)) e (sym (drop_at b t 16 size))
    ∙ ap (λ (x : List ℕ). chained h (bit_xor y (number x) • h) (blocks (length t / 16) (drop 16 (b ++ t)))) (sym (take_at b t 16 size))
    ∙ ap (λ (m : ℕ). chained h y (blocks m (b ++ t))) more
    ∙ ap (on_from h y) (sym es)

pub hash-end : (h y : ℕ) (s : List ℕ) → length s < 16 → on_from h y s ≡ y
unfolding chained blocks
hash-end h y s l =
    let none : length s / 16 ≡ 0 = omega arith in
    ap (λ (m : ℕ). chained h y (blocks m s)) none
