-- The hash value after whole blocks: block by block, in two parts, and with a tail that is no whole block.
use Prim.Native.Nat.{ℕ, zero, suc, ◌+◌, ◌-◌, ◌*◌, ◌/◌, ◌%◌, ◌≤◌, ◌<◌}
use mathlib.Core.List.{List, [], ◌∷◌, ◌++◌, foldl, append_assoc}
use mathlib.Core.Path.{◌≡◌, sym, ap, ap₂, ◌∙◌}
use native.Mathlib.Omega.{arith}
use lib.ListN.{length, take, drop, length-append, length-drop, take-append-drop}
use lib.Seq.{take_all, take_at, drop_at, take-append-le, drop-append-le, length-take-le}
use Rattle.octets.specs.Octets.{part}
use Rattle.octets.proofs.Parts.{to_end}
use Rattle.sha256_constants.specs.Constants.{H⁰}
use Rattle.sha256_schedule.specs.Schedule.{parsed}
use Rattle.sha256_padding.specs.Padding.{padding}
use Rattle.sha256.specs.Sha256.{compressed, absorbed, digest, finished, hash}

absorbed-one : (h m : List ℕ) → 64 ≤ length m → absorbed h m ≡ absorbed (compressed h (take 64 m)) (drop 64 m)
unfolding absorbed parsed
absorbed-one h m l =
    let more : length m / 64 ≡ suc (length (drop 64 m) / 64) = omega (arith, length-drop 64 m) in
    ap (λ (n : ℕ). foldl compressed h (parsed n 64 m)) more

pub absorbed-none : (h m : List ℕ) → length m < 64 → absorbed h m ≡ h
unfolding absorbed parsed
absorbed-none h m l =
    let none : length m / 64 ≡ 0 = omega arith in
    ap (λ (n : ℕ). foldl compressed h (parsed n 64 m)) none

-- a turn of a loop over the blocks
pub absorbed-turn : (h m r block next : List ℕ) → m ≡ block ++ next → length block ≡ 64 → r ≡ compressed h block → absorbed r next ≡ absorbed h m
absorbed-turn h m r block next cut size er =
    let whole : 64 ≤ length m = omega (arith, ap length cut, length-append block next) in
    let first : take 64 m ≡ block = ap (take 64) cut ∙ take_at block next 64 size in
    let left : drop 64 m ≡ next = ap (drop 64) cut ∙ drop_at block next 64 size in
    ap₂ absorbed (er ∙ ap (compressed h) (sym first)) (sym left) ∙ sym (absorbed-one h m whole)

-- whole blocks, and then more
absorbed-append : (n : ℕ) (h b m : List ℕ) → length b ≡ 64 * n → absorbed h (b ++ m) ≡ absorbed (absorbed h b) m
absorbed-append zero h [] m e = ap (λ (k : List ℕ). absorbed k m) (sym (absorbed-none h [] (omega arith)))
absorbed-append zero h (x ∷ b) m e = absurd (omega arith)
absorbed-append (suc n) h b m e =
    let whole : 64 ≤ length b = omega arith in
    let longer : 64 ≤ length (b ++ m) = omega (arith, length-append b m) in
    let left : length (drop 64 b) ≡ 64 * n = omega (arith, length-drop 64 b) in
    rw (
      absorbed-one h (b ++ m) longer,
      take-append-le 64 b m whole,
      drop-append-le 64 b m whole,
      absorbed-one h b whole,
    ) (absorbed-append n (compressed h (take 64 b)) (drop 64 b) m left)

-- 6.2: hashing may go on from the hash value after whole blocks
pub hash-on : (b m : List ℕ) → length b % 64 ≡ 0 → hash (b ++ m) ≡ finished (absorbed H⁰ b) (length b) m
unfolding hash finished
hash-on b m whole =
    let count : length b ≡ 64 * (length b / 64) = omega arith in
    let p : List ℕ = padding (length b + length m) in
    ap digest
    (ap (λ (n : ℕ). absorbed H⁰ (b ++ m ++ padding n)) (length-append b m)
    ∙ ap (absorbed H⁰) (append_assoc b m p)
    ∙ absorbed-append (length b / 64) H⁰ b (m ++ p) count)

-- the same, behind one block
pub hash-behind : (b m : List ℕ) → length b ≡ 64 → finished (compressed H⁰ b) 64 m ≡ hash (b ++ m)
hash-behind b m e =
    let whole : length b % 64 ≡ 0 = omega arith in
    let none : length (drop 64 b) < 64 = omega (arith, length-drop 64 b) in
    let one : absorbed H⁰ b ≡ compressed H⁰ b =
    absorbed-one H⁰ b (omega arith) ∙ absorbed-none (compressed H⁰ (take 64 b)) (drop 64 b) none ∙ ap (compressed H⁰) (take_all 64 b (omega arith)) in
    sym (hash-on b m whole ∙ ap₂ (λ (h : List ℕ) (n : ℕ). finished h n m) one e)

pub hash-at-once : (m : List ℕ) → finished H⁰ 0 m ≡ hash m
unfolding hash finished
hash-at-once m =
    let all : 0 + length m ≡ length m = omega arith in
    ap (λ (n : ℕ). digest (absorbed H⁰ (m ++ padding n))) all

-- the whole blocks of a message, and then its tail with the padding
pub finished-is : (h v r m : List ℕ) (n at total : ℕ) → v ≡ absorbed h m → r ≡ absorbed v (part m at (length m - at) ++ padding total)
    → at ≡ length m / 64 * 64 → total ≡ n + length m → digest r ≡ finished h n m
unfolding finished
finished-is h v r m n at total ev er e all =
    let inside : at ≤ length m = omega arith in
    let count : length (take at m) ≡ 64 * (length m / 64) = length-take-le at m inside ∙ omega arith in
    let tail : length (drop at m) < 64 = omega (arith, length-drop at m) in
    let rest : part m at (length m - at) ≡ drop at m = to_end m at in
    let p : List ℕ = padding (n + length m) in
    let front : absorbed h m ≡ absorbed h (take at m) =
    ap (absorbed h) (sym (take-append-drop at m))
    ∙ absorbed-append (length m / 64) h (take at m) (drop at m) count
    ∙ absorbed-none (absorbed h (take at m)) (drop at m) tail in
    ap digest
    (er
    ∙ ap (λ (k : ℕ). absorbed v (part m at (length m - at) ++ padding k)) all
    ∙ ap₂ (λ (x y : List ℕ). absorbed x (y ++ p)) (ev ∙ front) rest
    ∙ sym (absorbed-append (length m / 64) h (take at m) (drop at m ++ p) count)
    ∙ ap (absorbed h) (sym (append_assoc (take at m) (drop at m) p) ∙ ap (λ (x : List ℕ). x ++ p) (take-append-drop at m)))
