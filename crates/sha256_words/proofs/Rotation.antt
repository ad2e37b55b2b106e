-- Words: the method's rotation, by two shifts, at every distance.
use Prim.Native.Nat.{ℕ, ◌+◌, ◌-◌, ◌*◌, ◌/◌, ◌%◌, ◌^◌, ◌<◌}
use mathlib.Core.Path.{◌≡◌, ap, ◌∙◌}
use native.Mathlib.Nat.{add-zero, mul-mod_left}
use native.Mathlib.Omega.{arith}
use lib.Bits.{bit_or, or_shifted_r}
use lib.Pow.{mod-pow-add, shl-shr, shr_lt}
use Rattle.std.specs.Int.{w32, rotate_right}
use Rattle.sha256_words.specs.Words.{ROTR}

-- what a left shift by k keeps of a word of n + k bits is its low n bits
shift-keeps : (x n k : ℕ) → x * 2 ^ k % 2 ^ (n + k) ≡ x % 2 ^ n * 2 ^ k
shift-keeps x n k = rw (mod-pow-add (x * 2 ^ k) n k, shl-shr x k, mul-mod_left x (2 ^ k)) (add-zero (x % 2 ^ n * 2 ^ k))

pub rotation : (n x : ℕ) → 0 < n → n < 32 → x < 2 ^ 32 → rotate_right w32 x n ≡ ROTR n x
unfolding ROTR
rotation n x some l h =
    let k : ℕ = 32 - n in
    let right-by : n % 32 ≡ n = omega arith in
    let left-by : k % 32 ≡ k = omega arith in
    let left : 32 ≡ n + k = omega arith in
    let right : 32 ≡ k + n = omega arith in
    let low : x / 2 ^ n < 2 ^ k = shr_lt k n (rw (ap (λ (w : ℕ). 2 ^ w) right) at h) in
    rw (right-by, left-by)
    (ap (λ (w : ℕ). bit_or (x / 2 ^ n) (x * 2 ^ k % 2 ^ w)) left ∙ ap (bit_or (x / 2 ^ n)) (shift-keeps x n k) ∙ or_shifted_r (x % 2 ^ n) k (x / 2 ^ n) low)
