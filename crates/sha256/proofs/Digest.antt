-- A hash value's words as bytes, laid down word by word.
use Prim.Native.Nat.{ℕ, ◌+◌, ◌*◌, ◌<◌}
use mathlib.Core.List.{List, [], ◌∷◌, ◌++◌, flat_map, append-nil, append_assoc}
use mathlib.Core.Path.{◌≡◌, refl, sym, ap, ◌∙◌}
use native.Mathlib.Numerals.{add-one}
use native.Mathlib.Omega.{arith}
use lib.ListN.{length, get_or, take, replicate, length-append}
use lib.Seq.{take-suc, take_all, length-take-le}
use Rattle.octets.specs.Octets.{bytes, laid, begun}
use Rattle.octets.proofs.Numbers.{bytes-length}
use Rattle.octets.proofs.Buffers.{begun_more}
use Rattle.sha256.specs.Sha256.{digest}

pub digest-length : (h : List ℕ) → length (digest h) ≡ 4 * length h
unfolding digest flat_map
digest-length [] = refl
digest-length (x ∷ xs) =
    rw (length-append (bytes 4 x) (digest xs), bytes-length 4 x, digest-length xs) (omega arith)

digest-append : (a b : List ℕ) → digest (a ++ b) ≡ digest a ++ digest b
unfolding digest flat_map
digest-append [] b = refl
digest-append (x ∷ xs) b = rw (digest-append xs b, append_assoc (bytes 4 x) (digest xs) (digest b))

digest-one : (x : ℕ) → digest (x ∷ []) ≡ bytes 4 x
unfolding digest flat_map
digest-one x = append-nil (bytes 4 x)

-- a buffer with the bytes of the first i words at its start
abbrev pub written : List ℕ → ℕ → List ℕ
written h i = begun (digest (take i h)) (replicate 32 0)

pub written_none : (h : List ℕ) → replicate 32 0 ≡ written h 0
unfolding digest flat_map
written_none h = refl

pub written-more : (h : List ℕ) (i : ℕ) → i < length h → laid (written h i) (4 * i) (bytes 4 (get_or h i 0)) ≡ written h (i + 1)
written-more h i l =
    let front = digest (take i h) in
    let place : 4 * i ≡ length front = sym (digest-length (take i h) ∙ ap (λ (n : ℕ). 4 * n) (length-take-le i h (omega arith))) in
    let more : digest (take (i + 1) h) ≡ front ++ bytes 4 (get_or h i 0) =
    rw (add-one i, take-suc h i 0 l, digest-append (take i h) (get_or h i 0 ∷ []), digest-one (get_or h i 0)) in
    begun_more front (bytes 4 (get_or h i 0)) (replicate 32 0) (4 * i) place ∙ ap (λ (s : List ℕ). begun s (replicate 32 0)) (sym more)

pub written_all : (h : List ℕ) (i : ℕ) → length h ≡ 8 → i ≡ 8 → written h i ≡ digest h
written_all h i eight e =
    rw (e, take_all 8 h (omega arith), digest-length h, eight) (append-nil (digest h))
