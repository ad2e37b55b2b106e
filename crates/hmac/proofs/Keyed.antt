-- RFC 2104 section 2: the actual key, and a keyed block as it is laid down.
use Prim.Native.Nat.{ℕ, zero, suc, ◌+◌, ◌-◌, ◌≤◌, ◌<◌}
use mathlib.Core.List.{List, [], ◌∷◌, ◌++◌}
use mathlib.Core.Path.{◌≡◌, refl, sym, ap, ap₂, ◌∙◌}
use native.Mathlib.Nat.{not-suc-le-zero, le_of_suc-le-suc}
use native.Mathlib.Omega.{arith}
use borrow.Author.Tests.{le-leb, lt-leb}
use lib.Bits.{bit_xor, xor_zero_l}
use lib.ListN.{length, drop, replicate, length-append, length-replicate}
use Rattle.octets.specs.Octets.{xor, laid}
use Rattle.octets.proofs.Xor.{xor-length}
use Rattle.sha256.specs.Sha256.{hash}
use Rattle.hmac.specs.Hmac.{actual_key, key_block, keyed, ipad, opad, hmac}

-- ---- the actual key
pub key-as-it-is : (key : List ℕ) → length key ≤ 64 → actual_key key ≡ key
unfolding actual_key
key-as-it-is key l = rw (le-leb (length key) 64 l)

pub key-hashed : (key : List ℕ) → 64 < length key → actual_key key ≡ hash key
unfolding actual_key
key-hashed key l = rw (lt-leb (length key) 64 l)

pub hmac-is : (key actual text : List ℕ) → actual ≡ actual_key key → hash (keyed actual opad ++ hash (keyed actual ipad ++ text)) ≡ hmac key text
unfolding hmac
hmac-is key actual text is = ap (λ (k : List ℕ). hash (keyed k opad ++ hash (keyed k ipad ++ text))) is

-- ---- a keyed block
zeros-masked : (n pad : ℕ) → replicate n pad ≡ xor (replicate n 0) (replicate n pad)
unfolding xor
zeros-masked zero pad = refl
zeros-masked (suc n) pad = ap₂ (λ (x : ℕ) (xs : List ℕ). x ∷ xs) (sym (xor_zero_l pad)) (zeros-masked n pad)

-- a masked key and the mask behind it are the key with zeros behind it, masked
masked : (key : List ℕ) (n pad : ℕ) → length key ≤ n
    → xor key (replicate n pad) ++ drop (length key) (replicate n pad) ≡ xor (key ++ replicate (n - length key) 0) (replicate n pad)
unfolding xor
masked [] n pad l =
    let all : n - 0 ≡ n = omega arith in
    zeros-masked n pad ∙ ap (λ (k : ℕ). xor (replicate k 0) (replicate n pad)) (sym all)
masked (b ∷ key) zero pad l = absurd (not-suc-le-zero l)
masked (b ∷ key) (suc n) pad l =
    let less : n - length key ≡ suc n - suc (length key) = omega arith in
    ap (λ (xs : List ℕ). bit_xor b pad ∷ xs)
    (masked key n pad (le_of_suc-le-suc l) ∙ ap (λ (k : ℕ). xor (key ++ replicate k 0) (replicate n pad)) less)

pub keyed-is : (key : List ℕ) (pad : ℕ) → length key ≤ 64 → laid (replicate 64 pad) 0 (xor key (replicate 64 pad)) ≡ keyed key pad
unfolding keyed key_block
keyed-is key pad l =
    let place : 0 + length (xor key (replicate 64 pad)) ≡ length key = omega (arith, xor-length key (replicate 64 pad)) in
    ap (λ (n : ℕ). xor key (replicate 64 pad) ++ drop n (replicate 64 pad)) place ∙ masked key 64 pad l

pub keyed-length : (key : List ℕ) (pad : ℕ) → length key ≤ 64 → length (keyed key pad) ≡ 64
unfolding keyed key_block
keyed-length key pad l =
    xor-length (key ++ replicate (64 - length key) 0) (replicate 64 pad)
    ∙ length-append key (replicate (64 - length key) 0)
    ∙ ap (λ (n : ℕ). length key + n) (length-replicate (64 - length key) 0)
    ∙ omega arith
