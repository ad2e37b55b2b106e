-- FIPS 180-4 sections 4.2.2 and 5.3.3: the constants are bits of roots of the first primes, by one test over each table.
use Prim.Native.Nat.{ℕ, zero, suc, ◌+◌, ◌*◌, ◌^◌, ◌<◌}
use mathlib.Core.Bool.{Bool, true, false, ◌&&◌}
use mathlib.Core.List.{List}
use mathlib.Core.Path.{◌≡◌, refl}
use lib.Dec.{T, leb, ltb, leb→le, ltb→lt}
use lib.ListN.{length, get_or}
use Rattle.octets.proofs.Rule.{each, at_each}
use Rattle.sha256_constants.specs.Constants.{K, H⁰, primes, primes_from, undivided, WholeRoot, RootBits}

pick : Bool → ℕ → ℕ → ℕ
pick true a b = a
pick false a b = b

-- the greatest number up to n whose e-th power is at most p
greatest : ℕ → ℕ → ℕ → ℕ
greatest e p zero = zero
greatest e p (suc n) = pick (leb (suc n ^ e) p) (suc n) (greatest e p n)

-- the square root of 311 is below 18
root : ℕ → ℕ → ℕ
root e p = greatest e p 18

is_root : ℕ → ℕ → ℕ → Bool
is_root e n q = leb (q ^ e) n && ltb n ((q + 1) ^ e)

both : (a b : Bool) → T (a && b) → T a × T b
both true b t = (tt, t)
both false b t = absurd t

whole-root : (e n q : ℕ) → T (is_root e n q) → WholeRoot e n q
unfolding is_root
whole-root e n q t =
    let h = both (leb (q ^ e) n) (ltb n ((q + 1) ^ e)) t in
    (leb→le (q ^ e) n h.0, ltb→lt n ((q + 1) ^ e) h.1)

test : ℕ → ℕ → ℕ → Bool
test e t k = is_root e (get_or primes t 0) (root e (get_or primes t 0)) && is_root e (get_or primes t 0 * 2 ^ (32 * e)) (root e (get_or primes t 0) * 2 ^ 32 + k)

-- the rule of a table of e-th roots
rule : (e : ℕ) (table : List ℕ) → T (each (test e) 0 table) → (t : ℕ) → t < length table → RootBits e (get_or primes t 0) (get_or table t 0)
unfolding test
rule e table passed t l =
    let p : ℕ = get_or primes t 0 in
    let fraction : ℕ = root e p * 2 ^ 32 + get_or table t 0 in
    let h = both (is_root e p (root e p)) (is_root e (p * 2 ^ (32 * e)) fraction) (at_each (test e) table passed t l) in
    record { q = root e p; whole = whole-root e p (root e p) h.0; bits = whole-root e (p * 2 ^ (32 * e)) fraction h.1 }

-- the constants of FIPS 180-4 and the primes that they are made of
pub record ConstantsRule : Type 0 where
  pub first-primes : primes ≡ primes_from 2 310
  pub sixty-four : length primes ≡ 64
  pub cube-roots : (t : ℕ) → t < 64 → RootBits 3 (get_or primes t 0) (get_or K t 0)
  pub square-roots : (t : ℕ) → t < 8 → RootBits 2 (get_or primes t 0) (get_or H⁰ t 0)

pub constants-rule : ConstantsRule
unfolding K H⁰ primes primes_from undivided test is_root root greatest pick
constants-rule = record { first-primes = refl; sixty-four = refl; cube-roots = rule 3 K tt; square-roots = rule 2 H⁰ tt }
