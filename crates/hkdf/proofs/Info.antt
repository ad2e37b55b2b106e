-- RFC 5869 section 2.3 and RFC 8446 section 7.1: the texts of the expansion, as they are laid down, and its first block.
use Prim.Native.Nat.{ℕ, zero, suc, ◌+◌, ◌/◌, ◌≤◌}
use mathlib.Core.List.{List, [], ◌∷◌, ◌++◌}
use mathlib.Core.Path.{◌≡◌, refl, sym, ap, ap₂, ◌∙◌}
use native.Mathlib.Omega.{arith}
use lib.ListN.{length, take, length-append}
use Rattle.octets.specs.Octets.{bytes, laid, begun}
use Rattle.octets.proofs.Numbers.{bytes-length}
use Rattle.octets.proofs.Buffers.{begun_more}
use Rattle.octets.specs.Text.{ascii}
use Rattle.hmac.specs.Hmac.{hmac}
use Rattle.hkdf.specs.Hkdf.{T, Ts, expand, tls13, info, expand_label}

-- ---- RFC 5869 section 2.3
-- a text at a buffer's start, and a one behind it: the first equations are what the writes ensure
pub text-written : (d d1 d2 text : List ℕ) (n : ℕ) → d1 ≡ laid d 0 text → d2 ≡ laid d1 (length text) (bytes 1 n) → n ≡ 1 → d2 ≡ begun (text ++ (1 ∷ [])) d
unfolding bytes
text-written d d1 d2 text n e1 e2 one =
    e2
    ∙ ap₂ (λ (x : List ℕ) (m : ℕ). laid x (length text) (bytes 1 m)) (e1 ∙ begun_more [] text d 0 refl) one
    ∙ begun_more text (1 ∷ []) d (length text) refl

pub first_block : (prk text : List ℕ) → hmac prk (text ++ (1 ∷ [])) ≡ T prk text 1
unfolding T
first_block prk text = refl

-- up to 32 bytes are of the first block
expand-short : (prk text : List ℕ) (L : ℕ) → L ≤ 32 → take L (T prk text 1) ≡ expand prk text L
unfolding expand Ts
expand-short prk text zero l = refl
expand-short prk text (suc L) l =
    let one : (suc L + 31) / 32 ≡ 1 = omega arith in
    ap (λ (n : ℕ). take (suc L) (Ts prk text n)) (sym one)

-- ---- RFC 8446 section 7.1
pub info-length : (label : List ℕ) (L : ℕ) → length (info label L) ≡ length label + 10
unfolding info tls13 ascii
info-length label L =
    let a : List ℕ = bytes 2 L in
    let b : List ℕ = bytes 1 (length (tls13 ++ label)) in
    length-append (a ++ b ++ tls13 ++ label) (0 ∷ [])
    ∙ omega (
      arith,
      length-append (a ++ b ++ tls13) label,
      length-append (a ++ b) tls13,
      length-append a b,
      bytes-length 2 L,
      bytes-length 1 (length (tls13 ++ label)),
    )

-- the five parts, one behind the other
info-laid : (d label : List ℕ) (L w : ℕ) → w ≡ 6 + length label
    → laid (laid (laid (laid (laid d 0 (bytes 2 L)) 2 (bytes 1 w)) 3 tls13) 9 label) (3 + w) (bytes 1 0) ≡ begun (info label L) d
unfolding info tls13 ascii bytes
info-laid d label L w e =
    let whole : w ≡ length (tls13 ++ label) = omega arith in
    let a : List ℕ = bytes 2 L in
    let b : List ℕ = a ++ bytes 1 w in
    let c : List ℕ = b ++ tls13 in
    let place : 3 + w ≡ length (c ++ label) = omega (arith, length-append c label) in
    ap (λ (x : List ℕ). laid (laid (laid (laid x 2 (bytes 1 w)) 3 tls13) 9 label) (3 + w) (0 ∷ [])) (begun_more [] a d 0 refl)
    ∙ ap (λ (x : List ℕ). laid (laid (laid x 3 tls13) 9 label) (3 + w) (0 ∷ [])) (begun_more a (bytes 1 w) d 2 refl)
    ∙ ap (λ (x : List ℕ). laid (laid x 9 label) (3 + w) (0 ∷ [])) (begun_more b tls13 d 3 refl)
    ∙ ap (λ (x : List ℕ). laid x (3 + w) (0 ∷ [])) (begun_more c label d 9 refl)
    ∙ begun_more (c ++ label) (0 ∷ []) d (3 + w) place
    ∙ ap (λ (n : ℕ). begun (a ++ bytes 1 n ++ tls13 ++ label ++ (0 ∷ [])) d) whole

-- the same, as they are written: the first equations are what the writes ensure
pub info-written : (d d1 d2 d3 d4 d5 prefix label : List ℕ) (L n w at : ℕ) → d1 ≡ laid d 0 (bytes 2 n) → d2 ≡ laid d1 2 (bytes 1 w) → d3 ≡ laid d2 3 prefix
    → d4 ≡ laid d3 9 label → d5 ≡ laid d4 at (bytes 1 0) → n ≡ L → w ≡ 6 + length label → prefix ≡ tls13 → at ≡ 3 + (6 + length label) → d5 ≡ begun (info label L) d
info-written d d1 d2 d3 d4 d5 prefix label L n w at e1 e2 e3 e4 e5 size length-byte front end =
    let one : d1 ≡ laid d 0 (bytes 2 L) = e1 ∙ ap (λ (k : ℕ). laid d 0 (bytes 2 k)) size in
    let two : d2 ≡ laid (laid d 0 (bytes 2 L)) 2 (bytes 1 (6 + length label)) = e2 ∙ ap₂ (λ (x : List ℕ) (k : ℕ). laid x 2 (bytes 1 k)) one length-byte in
    let three = e3 ∙ ap₂ (λ (x p : List ℕ). laid x 3 p) two front in
    let four = e4 ∙ ap (λ (x : List ℕ). laid x 9 label) three in
    e5 ∙ ap₂ (λ (x : List ℕ) (k : ℕ). laid x k (bytes 1 0)) four end ∙ info-laid d label L (6 + length label) refl

-- the first block, cut to what is asked for
pub expand-label-is : (secret label block : List ℕ) (L : ℕ) → L ≤ 32 → block ≡ T secret (info label L) 1 → take L block ≡ expand_label secret label L
unfolding expand_label
expand-label-is secret label block L short e = ap (take L) e ∙ expand-short secret (info label L) L short
