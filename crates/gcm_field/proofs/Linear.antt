-- The steps of the product are linear, in Z, in V and in X; so they can be taken apart at any bit.
use Prim.Native.Nat.{ℕ, zero, suc, ◌+◌, ◌*◌, ◌/◌, ◌%◌, ◌^◌, ◌<◌}
use mathlib.Core.Path.{◌≡◌, refl, sym, ap, ap₂, ◌∙◌}
use native.Mathlib.Nat.{zero-add, suc-add, add-suc, add_comm, zero-mul, one-mul, mod-lt, pow-suc, mul_assoc, mul-one, mul-div_cancel, mul-mod_left, zero-lt-suc}
use native.Mathlib.Numerals.{add-one}
use native.Mathlib.Omega.{arith}
use lib.Bits.{bit_xor, xor_zero_r, xor_self, xor_comm, xor_shifted, xor_shr, xor_mod}
use lib.Pow.{pow_pos, shr-shr, field, mod-mod-pow, split}
use Rattle.octets.proofs.Xor.{digit_lt, xor_assoc, xor-left-comm}
use Rattle.gcm_field.specs.Field.{R, bit, next, steps, nexts}

pub xor-swap : (a b c d : ℕ) → bit_xor (bit_xor a b) (bit_xor c d) ≡ bit_xor (bit_xor a c) (bit_xor b d)
xor-swap a b c d = xor_assoc a b (bit_xor c d) ∙ ap (bit_xor a) (xor-left-comm b c d) ∙ sym (xor_assoc a c (bit_xor b d))

-- ---- a digit times a number
digits-times : (x y r : ℕ) → x < 2 → y < 2 → bit_xor x y * r ≡ bit_xor (x * r) (y * r)
digits-times zero y r hx hy = rw zero-mul
digits-times (suc zero) zero r hx hy = sym (ap (bit_xor (1 * r)) (zero-mul r) ∙ xor_zero_r (1 * r))
digits-times (suc zero) (suc zero) r hx hy = zero-mul r ∙ sym (xor_self (1 * r))
digits-times (suc zero) (suc (suc y)) r hx hy = absurd (omega arith)
digits-times (suc (suc x)) y r hx hy = absurd (omega arith)

low-times : (a b r : ℕ) → bit_xor a b % 2 * r ≡ bit_xor (a % 2 * r) (b % 2 * r)
low-times a b r = ap (λ (d : ℕ). d * r) (xor_mod a b 1) ∙ digits-times (a % 2) (b % 2) r (digit_lt a) (digit_lt b)

bit-lt : (x n : ℕ) → bit x n < 2
unfolding bit
bit-lt x n = omega arith

bit-times : (x y n r : ℕ) → bit (bit_xor x y) n * r ≡ bit_xor (bit x n * r) (bit y n * r)
unfolding bit
bit-times x y n r = ap (λ (q : ℕ). q % 2 * r) (xor_shr x y n) ∙ low-times (x / 2 ^ n) (y / 2 ^ n) r

-- ---- one step, and n of them, of V
next-xor : (a b : ℕ) → next (bit_xor a b) ≡ bit_xor (next a) (next b)
unfolding next
next-xor a b = ap₂ bit_xor (xor_shr a b 1) (low-times a b R) ∙ xor-swap (a / 2) (b / 2) (a % 2 * R) (b % 2 * R)

next-zero : next 0 ≡ 0
unfolding next
next-zero = refl

next-times : (d v : ℕ) → d < 2 → next (d * v) ≡ d * next v
next-times zero v h = ap next (zero-mul v) ∙ next-zero ∙ sym (zero-mul (next v))
next-times (suc zero) v h = ap next (one-mul v) ∙ sym (one-mul (next v))
next-times (suc (suc d)) v h = absurd (omega arith)

pub nexts-none : (v : ℕ) → nexts 0 v ≡ v
unfolding nexts
nexts-none v = refl

pub nexts-xor : (k a b : ℕ) → nexts k (bit_xor a b) ≡ bit_xor (nexts k a) (nexts k b)
unfolding nexts
nexts-xor zero a b = refl
nexts-xor (suc k) a b = ap (nexts k) (next-xor a b) ∙ nexts-xor k (next a) (next b)

pub nexts-zero : (k : ℕ) → nexts k 0 ≡ 0
unfolding nexts
nexts-zero zero = refl
nexts-zero (suc k) = ap (nexts k) next-zero ∙ nexts-zero k

pub nexts-add : (k n v : ℕ) → nexts (k + n) v ≡ nexts n (nexts k v)
unfolding nexts
nexts-add zero n v = ap (λ (m : ℕ). nexts m v) (zero-add n)
nexts-add (suc k) n v = ap (λ (m : ℕ). nexts m v) (suc-add k n) ∙ nexts-add k n (next v)

-- ---- the steps add to Z what they add to zero
pub steps-sum : (n x z v : ℕ) → steps n x z v ≡ bit_xor z (steps n x 0 v)
unfolding steps
steps-sum zero x z v = sym (xor_zero_r z)
steps-sum (suc n) x z v =
    steps-sum n x (bit_xor z (bit x n * v)) (next v)
    ∙ xor_assoc z (bit x n * v) (steps n x 0 (next v))
    ∙ ap (bit_xor z) (sym (steps-sum n x (bit x n * v) (next v)))

steps_first : (n x v : ℕ) → steps (suc n) x 0 v ≡ bit_xor (bit x n * v) (steps n x 0 (next v))
unfolding steps
steps_first n x v = steps-sum n x (bit x n * v) (next v)

-- ---- linear in X
pub steps-xor : (n x y v : ℕ) → steps n (bit_xor x y) 0 v ≡ bit_xor (steps n x 0 v) (steps n y 0 v)
unfolding steps
steps-xor zero x y v = refl
steps-xor (suc n) x y v =
    steps_first n (bit_xor x y) v
    ∙ ap₂ bit_xor (bit-times x y n v) (steps-xor n x y (next v))
    ∙ xor-swap (bit x n * v) (bit y n * v) (steps n x 0 (next v)) (steps n y 0 (next v))
    ∙ sym (ap₂ bit_xor (steps_first n x v) (steps_first n y v))

-- ---- linear in V
steps_next : (n x v : ℕ) → steps n x 0 (next v) ≡ next (steps n x 0 v)
unfolding steps
steps_next zero x v = sym next-zero
steps_next (suc n) x v =
    steps_first n x (next v)
    ∙ ap₂ bit_xor (sym (next-times (bit x n) v (bit-lt x n))) (steps_next n x (next v))
    ∙ sym (ap next (steps_first n x v) ∙ next-xor (bit x n * v) (steps n x 0 (next v)))

steps-nexts : (k n x v : ℕ) → steps n x 0 (nexts k v) ≡ nexts k (steps n x 0 v)
unfolding nexts
steps-nexts zero n x v = refl
steps-nexts (suc k) n x v = steps-nexts k n x (next v) ∙ ap (nexts k) (steps_next n x v)

-- ---- the bits of X from n up, then the n low ones
bit-above : (x k n : ℕ) → bit x (k + n) ≡ bit (x / 2 ^ n) k
unfolding bit
bit-above x k n = ap (λ (m : ℕ). x / 2 ^ m % 2) (add_comm k n) ∙ ap (λ (m : ℕ). m % 2) (sym (shr-shr x n k))

pub steps-add : (k n x z v : ℕ) → steps (k + n) x z v ≡ steps n x (steps k (x / 2 ^ n) z v) (nexts k v)
unfolding steps nexts
steps-add zero n x z v = ap (λ (m : ℕ). steps m x z v) (zero-add n)
steps-add (suc k) n x z v =
    ap (λ (m : ℕ). steps m x z v) (suc-add k n)
    ∙ steps-add k n x (bit_xor z (bit x (k + n) * v)) (next v)
    ∙ ap (λ (b : ℕ). steps n x (steps k (x / 2 ^ n) (bit_xor z (b * v)) (next v)) (nexts k (next v))) (bit-above x k n)

-- the low bits' share, and that of the k above them, which the low ones' V does not reach
pub steps-above : (k n x v : ℕ) → steps (n + k) x 0 v ≡ bit_xor (nexts k (steps n x 0 v)) (steps k (x / 2 ^ n) 0 v)
steps-above k n x v =
    ap (λ (m : ℕ). steps m x 0 v) (add_comm n k)
    ∙ steps-add k n x 0 v
    ∙ steps-sum n x (steps k (x / 2 ^ n) 0 v) (nexts k v)
    ∙ xor_comm (steps k (x / 2 ^ n) 0 v) (steps n x 0 (nexts k v))
    ∙ ap (λ (y : ℕ). bit_xor y (steps k (x / 2 ^ n) 0 v)) (steps-nexts k n x v)

-- ---- only the n low bits of X count
bit-mod : (i x n : ℕ) → bit (x % 2 ^ (suc i + n)) n ≡ bit x n
unfolding bit
bit-mod i x n =
    ap (λ (y : ℕ). y % 2) (field x (suc i) n)
    ∙ ap (λ (m : ℕ). x / 2 ^ n % 2 ^ m % 2) (sym (add-one i))
    ∙ mod-mod-pow (x / 2 ^ n) i 1

steps-mod : (i n x z v : ℕ) → steps n (x % 2 ^ (i + n)) z v ≡ steps n x z v
unfolding steps
steps-mod i zero x z v = refl
steps-mod i (suc n) x z v =
    ap (λ (m : ℕ). steps (suc n) (x % 2 ^ m) z v) (add-suc i n ∙ sym (suc-add i n))
    ∙ ap (λ (b : ℕ). steps n (x % 2 ^ (suc i + n)) (bit_xor z (b * v)) (next v)) (bit-mod i x n)
    ∙ steps-mod (suc i) n x (bit_xor z (bit x n * v)) (next v)

pub steps_low : (n x z v : ℕ) → steps n (x % 2 ^ n) z v ≡ steps n x z v
steps_low n x z v = ap (λ (m : ℕ). steps n (x % 2 ^ m) z v) (sym (zero-add n)) ∙ steps-mod 0 n x z v

-- ---- k times `next` is a shift by k, and the share of the digits that are shifted out
next-double : (y : ℕ) → next (y * 2) ≡ y
unfolding next
next-double y = ap₂ (λ (p q : ℕ). bit_xor p (q * R)) (mul-div_cancel y (zero-lt-suc 1)) (mul-mod_left y 2) ∙ xor_zero_r y

nexts-shifted : (k y : ℕ) → nexts k (y * 2 ^ k) ≡ y
unfolding nexts
nexts-shifted zero y = mul-one y
nexts-shifted (suc k) y =
    ap (λ (m : ℕ). nexts k (next m)) (ap (λ (m : ℕ). y * m) (pow-suc 2 k) ∙ sym (mul_assoc y (2 ^ k) 2))
    ∙ ap (nexts k) (next-double (y * 2 ^ k))
    ∙ nexts-shifted k y

pub nexts-split : (k z : ℕ) → nexts k z ≡ bit_xor (z / 2 ^ k) (nexts k (z % 2 ^ k))
nexts-split k z =
    ap (nexts k) (sym (split z k) ∙ sym (xor_shifted (z / 2 ^ k) k (z % 2 ^ k) (mod-lt z (pow_pos k))))
    ∙ nexts-xor k (z / 2 ^ k * 2 ^ k) (z % 2 ^ k)
    ∙ ap (λ (y : ℕ). bit_xor y (nexts k (z % 2 ^ k))) (nexts-shifted k (z / 2 ^ k))
