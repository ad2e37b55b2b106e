-- FIPS 180-4 section 5.1.1: the padding is the one that the paper asks for, and what two blocks of zeros hold when it is laid down.
use Prim.Native.Nat.{ℕ, ◌+◌, ◌-◌, ◌*◌, ◌%◌, ◌≤◌, ◌<◌}
use mathlib.Core.List.{List, [], ◌∷◌, ◌++◌, append_assoc}
use mathlib.Core.Path.{◌≡◌, refl, sym, ap, ap₂, ◌∙◌}
use native.Mathlib.Omega.{arith}
use lib.ListN.{length, drop, replicate, length-append, length-replicate, replicate-append-replicate}
use lib.Seq.{drop_at}
use Rattle.octets.specs.Octets.{bytes, laid, begun, Begins}
use Rattle.octets.proofs.Numbers.{bytes-length}
use Rattle.octets.proofs.Buffers.{goes_on}
use Rattle.sha256_padding.specs.Padding.{zeros, padding}

-- l + 1 + k = 448 modulo 512, in bytes, and k is the smallest such number
pub zeros-fill : (l : ℕ) → (l + 1 + zeros l) % 64 ≡ 56
unfolding zeros
zeros-fill l = omega arith

pub zeros-fewest : (l k : ℕ) → (l + 1 + k) % 64 ≡ 56 → zeros l ≤ k
unfolding zeros
zeros-fewest l k e = omega arith

zeros-split : (n k : ℕ) → k ≤ n → replicate {A = ℕ} n 0 ≡ replicate k 0 ++ replicate (n - k) 0
zeros-split n k l =
    let e : n ≡ k + (n - k) = omega arith in
    ap (λ (m : ℕ). replicate {A = ℕ} m 0) e ∙ sym (replicate-append-replicate k (n - k) 0)

zeros-behind : (n k : ℕ) → k ≤ n → drop k (replicate {A = ℕ} n 0) ≡ replicate (n - k) 0
zeros-behind n k l =
    ap (drop k) (zeros-split n k l) ∙ drop_at (replicate k 0) (replicate (n - k) 0) k (length-replicate k 0)

pub two_blocks : (d : List ℕ) → d ≡ replicate 128 0 → length d ≡ 128
two_blocks d e = ap length e

-- a buffer of zeros, begun with s, is begun with s and some zeros too
more-zeros : (s : List ℕ) (n k : ℕ) → length s + k ≤ n → begun s (replicate n 0) ≡ begun (s ++ replicate k 0) (replicate n 0)
more-zeros s n k room =
    let l : ℕ = length s in
    let both : l + k ≡ length (s ++ replicate k 0) = sym (length-append s (replicate k 0) ∙ ap (λ (m : ℕ). l + m) (length-replicate k 0)) in
    let left : n - l - k ≡ n - (l + k) = omega arith in
    ap (λ (r : List ℕ). s ++ r) (zeros-behind n l (omega arith) ∙ zeros-split (n - l) k (omega arith))
    ∙ sym (append_assoc s (replicate k 0) (replicate (n - l - k) 0))
    ∙ ap (λ (r : List ℕ). s ++ replicate k 0 ++ r)
    (ap (λ (m : ℕ). replicate {A = ℕ} m 0) left ∙ sym (zeros-behind n (l + k) room) ∙ ap (λ (m : ℕ). drop m (replicate {A = ℕ} n 0)) both)

-- a tail with its padding, as it is laid down: copied, marked, and the length in bits at the end of the fewest blocks that hold it all
pub padded : (tail before copied marked stored : List ℕ) (total bits end : ℕ) → before ≡ replicate 128 0 → copied ≡ laid before 0 tail
    → marked ≡ laid copied (length tail) (0x80 ∷ []) → stored ≡ laid marked (end - 8) (bytes 8 bits) → length tail < 64 → total % 64 ≡ length tail
    → bits ≡ 8 * total → (end % 64 ≡ 0) × (length tail + 9 ≤ end) × (end < length tail + 9 + 64) → Begins (tail ++ padding total) before stored end
unfolding padding zeros
padded tail before copied marked stored total bits end empty copies marks stores short same count fewest =
    let z : ℕ = (119 - total % 64) % 64 in
    let d : List ℕ = replicate 128 0 in
    let size : List ℕ = bytes 8 (8 * total) in
    let one : List ℕ = tail ++ 0x80 ∷ [] in
    let none : 0 + length tail ≡ length tail = omega arith in
    let copied_is : copied ≡ begun tail d =
    copies ∙ ap (λ (b : List ℕ). laid b 0 tail) empty ∙ ap (λ (n : ℕ). tail ++ drop n d) none in
    let one-length : length one ≡ length tail + 1 = length-append tail (0x80 ∷ []) in
    let marked-is : marked ≡ begun (one ++ replicate z 0) d =
    goes_on tail (0x80 ∷ []) d copied marked (length tail) copied_is marks refl ∙ more-zeros one 128 z (omega arith) in
    let front_length : length (one ++ replicate z 0) ≡ end - 8 =
    length-append one (replicate z 0) ∙ ap (λ (n : ℕ). length one + n) (length-replicate z 0) ∙ omega arith in
    let stored_is : stored ≡ begun (one ++ replicate z 0 ++ size) d =
    goes_on (one ++ replicate z 0) size d marked stored (end - 8) marked-is (stores ∙ ap (λ (n : ℕ). laid marked (end - 8) (bytes 8 n)) count) (sym front_length) in
    let regroup : one ++ replicate z 0 ++ size ≡ tail ++ (0x80 ∷ replicate z 0 ++ size) =
    ap (λ (s : List ℕ). s ++ size) (append_assoc tail (0x80 ∷ []) (replicate z 0)) ∙ append_assoc tail (0x80 ∷ replicate z 0) size in
    let whole : length (one ++ replicate z 0 ++ size) ≡ end =
    length-append (one ++ replicate z 0) size ∙ ap₂ (λ (a b : ℕ). a + b) front_length (bytes-length 8 (8 * total)) ∙ omega arith in
    record {
      holds = stored_is ∙ ap₂ (λ (s b : List ℕ). begun s b) regroup (sym empty);
      ends = sym whole ∙ ap length regroup;
    }
