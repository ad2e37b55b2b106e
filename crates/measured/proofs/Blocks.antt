-- Whole blocks from the front: hashed by the stream, and enciphered one after the other.
use Prim.Native.Nat.{ℕ, zero, suc, ◌+◌, ◌-◌, ◌*◌, ◌/◌, ◌≤◌, ◌<◌}
use mathlib.Core.Path.{◌≡◌, refl, sym, ap, ap₂, ◌∙◌}
use mathlib.Core.List.{List, ◌∷◌, ◌++◌, append_assoc}
use native.Mathlib.Omega.{arith}
use lib.ListN.{length, take, drop, length-append, take-append-drop, length-drop, replicate}
use lib.Seq.{take-take, take_at, drop_at, drop-drop, length-take-le}
use Rattle.octets.specs.Octets.{Bytes, number, laid}
use Rattle.octets.proofs.Parts.{drop-taken}
use Rattle.octets.proofs.Buffers.{laid-length, laid-rest}
use Rattle.aes_byte_rounds.specs.Cipher.{encrypted}
use Rattle.aes_byte_rounds.proofs.Laws.{encrypted-length}
use Rattle.gcm_hash.specs.Hash.{State, blocks, chained, ghash, start, absorbed}
use Rattle.octets.proofs.Bytes.{take-bytes}
use Rattle.gcm_hash.proofs.Stream.{whole}
use Rattle.measured.specs.Measured.{enciphered}

-- ---- hashed
front-blocks : (n : ℕ) (s : List ℕ) → n * 16 ≤ length s → blocks n (take (n * 16) s) ≡ blocks n s
unfolding blocks
front-blocks zero s l = refl
front-blocks (suc n) s l =
    let size : suc n * 16 ≡ 16 + n * 16 = omega arith in
    let rest : drop 16 (take (suc n * 16) s) ≡ take (n * 16) (drop 16 s) = ap (λ (m : ℕ). drop 16 (take m s)) size ∙ drop-taken s 16 (n * 16) in
    ap₂ (λ (b : List ℕ) (r : List ℕ). number b ∷ blocks n r) (take-take 16 (suc n * 16) s (omega arith)) rest
    ∙ ap (λ (r : List ℕ). number (take 16 s) ∷ r) (front-blocks n (drop 16 s) (omega (arith, length-drop 16 s)))

-- the stream over the whole blocks is GHASH
pub stream-is : (h k : ℕ) (g₀ g : State) (s : List ℕ) (m : ℕ) → Bytes s → m ≡ length s / 16 * 16 → k ≡ h → g₀ ≡ start → g ≡ absorbed k g₀ (take m s) → g.y ≡ ghash h s
unfolding ghash
stream-is h k g₀ g s m bs em ek e₀ e =
    let n : ℕ = length s / 16 in
    let front : List ℕ = take (n * 16) s in
    let size : length front ≡ n * 16 = length-take-le (n * 16) s (omega arith) in
    ap (λ (x : State). x.y)
    (e ∙ ap₂ (λ (j : ℕ) (x : State). absorbed j x (take m s)) ek e₀ ∙ ap (λ (j : ℕ). absorbed h start (take j s)) em ∙ whole h n 0 front (take-bytes (n * 16) s bs) size)
    ∙ ap (chained h 0) (front-blocks n s (omega arith))

-- ---- enciphered
-- a buffer whose front is done, and what is left of it
abbrev pub onward : List ℕ → List ℕ → ℕ → List ℕ
onward w d at = take at d ++ enciphered w ((length d - at) / 16) (drop at d)

pub blocks_start : (w d : List ℕ) → onward w d 0 ≡ enciphered w (length d / 16) d
blocks_start w d =
    let all : length d - 0 ≡ length d = omega arith in
    ap (λ (n : ℕ). enciphered w (n / 16) d) all

-- sixteen bytes laid over sixteen zeros
pub block_read : (d b : List ℕ) (at : ℕ) → at + 16 ≤ length d → b ≡ laid (replicate 16 0) 0 (take (at + 16 - at) (drop at d)) → b ≡ take 16 (drop at d)
block_read d b at l e =
    let size : at + 16 - at ≡ 16 = omega arith in
    let all : length (take 16 (drop at d)) ≡ 16 = length-take-le 16 (drop at d) (omega (arith, length-drop at d)) in
    e ∙ ap (λ (n : ℕ). laid (replicate 16 0) 0 (take n (drop at d))) size ∙ laid-rest (replicate 16 0) 0 (take 16 (drop at d)) (omega arith)

pub blocks-turn : (w d d' b : List ℕ) (at : ℕ) → at + 16 ≤ length d → b ≡ take 16 (drop at d) → d' ≡ laid d at (encrypted w b) → onward w d' (at + 16) ≡ onward w d at
unfolding enciphered
blocks-turn w d d' b at l eb e =
    let c : List ℕ = encrypted w b in
    let size : length c ≡ 16 = encrypted-length w b in
    let front : length (take at d ++ c) ≡ at + 16 = length-append (take at d) c ∙ ap₂ (λ (m n : ℕ). m + n) (length-take-le at d (omega arith)) size in
    let joined : d' ≡ take at d ++ c ++ drop (at + 16) d = e ∙ ap (λ (m : ℕ). take at d ++ c ++ drop (at + m) d) size in
    let same : length d' ≡ length d = ap length e ∙ laid-length d at c (omega arith) in
    let n : ℕ = (length d - (at + 16)) / 16 in
    let more : suc n ≡ (length d - at) / 16 = omega arith in
    ap₂ (λ (x : List ℕ) (m : ℕ). take (at + 16) x ++ enciphered w ((m - (at + 16)) / 16) (drop (at + 16) x)) joined same
    ∙ ap₂ (λ (x y : List ℕ). x ++ enciphered w n y) (take_at (take at d ++ c) (drop (at + 16) d) (at + 16) front) (drop_at (take at d ++ c) (drop (at + 16) d) (at + 16) front)
    ∙ append_assoc (take at d) c (enciphered w n (drop (at + 16) d))
    ∙ ap₂ (λ (x y : List ℕ). take at d ++ (encrypted w x ++ enciphered w n y)) eb (sym (drop-drop 16 at d))
    ∙ ap (λ (m : ℕ). take at d ++ enciphered w m (drop at d)) more

pub blocks_end : (w d : List ℕ) (at : ℕ) → length d - at < 16 → onward w d at ≡ d
unfolding enciphered
blocks_end w d at l =
    let none : (length d - at) / 16 ≡ 0 = omega arith in
    ap (λ (m : ℕ). take at d ++ enciphered w m (drop at d)) none ∙ take-append-drop at d
