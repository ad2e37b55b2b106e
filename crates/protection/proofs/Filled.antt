-- Section 5.3: the nonce, as it is laid down.
use Prim.Native.Nat.{ℕ, ◌/◌, ◌%◌, ◌^◌, ◌<◌}
use mathlib.Core.Path.{◌≡◌}
use mathlib.Core.List.{List, ◌∷◌, append-nil}
use native.Mathlib.Omega.{arith}
use lib.ListN.{length, replicate}
use Rattle.octets.specs.Octets.{bytes, laid, xor}
use Rattle.octets.proofs.Numbers.{bytes-length}
use Rattle.octets.proofs.Xor.{xor-length}
use Rattle.octets.proofs.Buffers.{laid-all}
use Rattle.protection.specs.Protection.{nonce}

padded-bytes : (n : ℕ) → n < 2 ^ 64 → bytes 12 n ≡ 0 ∷ 0 ∷ 0 ∷ 0 ∷ bytes 8 n
unfolding bytes
padded-bytes n h =
    let a : n / 256 ^ 11 % 256 ≡ 0 = omega arith in
    let b : n / 256 ^ 10 % 256 ≡ 0 = omega arith in
    let c : n / 256 ^ 9 % 256 ≡ 0 = omega arith in
    let d : n / 256 ^ 8 % 256 ≡ 0 = omega arith in
    rw (a, b, c, d)

pub padded : (n : ℕ) → n < 2 ^ 64 → laid (replicate 12 0) 4 (bytes 8 n) ≡ bytes 12 n
padded n h = rw (bytes-length 8 n, padded-bytes n h, append-nil (bytes 8 n))

pub combined : (iv : List ℕ) (n : ℕ) → length iv ≡ 12 → n < 2 ^ 64
    → laid (replicate 12 0) 0 (xor iv (laid (replicate 12 0) 4 (bytes 8 n))) ≡ nonce iv n
unfolding nonce
combined iv n twelve h =
    rw (padded n h) (laid-all (replicate 12 0) (xor iv (bytes 12 n)) (omega (arith, xor-length iv (bytes 12 n))))
