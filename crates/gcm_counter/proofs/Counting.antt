-- Counter mode, two blocks at a time: what is left of the text, under the counter blocks that are left, laid over the buffer as it is, gives what all gave at the start.
use Rattle.std.proofs.Common.{◌≡◌, ℕ, suc, ◌+◌, ◌/◌, ◌%◌, ◌^◌, ◌<◌, ◌≤◌, List, [], ◌∷◌, ◌++◌, length, take, drop, sym, refl, ap, ◌∙◌, ap₂, append_assoc, append-nil, arith, length-append, length-drop, drop_of_length-le, take-take, drop-drop, take_at, drop_at, take_all, ⊎_elim, ◌⊎◌, inl, inr, eq-or-lt_of_le, min}
use Rattle.std.proofs.lemmas.List.{nil_from_length}
use Rattle.octets.specs.Octets.{bytes, number, part, xor, laid}
use Rattle.octets.proofs.Parts.{drop-taken}
use Rattle.octets.proofs.Numbers.{bytes-length, bytes-mod, number-bytes}
use Rattle.octets.proofs.Xor.{xor-length, xor-append}
use Rattle.octets.proofs.Buffers.{laid_more, laid_none, laid-two}
use Rattle.aes_byte_rounds.specs.Cipher.{encrypted}
use Rattle.aes_byte_rounds.proofs.Laws.{encrypted-length}
use Rattle.gcm_counter.specs.Counter.{inc32, key_stream, gctr, j0}

-- ---- the counter blocks
pub counter-block : (d b b' nonce : List ℕ) (n : ℕ) → length d ≡ 16 → length nonce ≡ 12 → b ≡ laid d 0 nonce → b' ≡ laid b 12 (bytes 4 n) → b' ≡ nonce ++ bytes 4 n
counter-block d b b' nonce n ld ln e e' =
    e' ∙ ap (λ (x : List ℕ). laid x 12 (bytes 4 n)) e ∙ laid-two d nonce (bytes 4 n) 12 (sym ln) (omega (arith, bytes-length 4 n))

next-bytes : (n m k : ℕ) → m ≡ n % 2 ^ 32 → k ≡ (n + 1) % 2 ^ 32 → bytes 4 (m + 1) ≡ bytes 4 k
next-bytes n m k em ek =
    let e : (m + 1) % 256 ^ 4 ≡ k % 256 ^ 4 = omega arith in
    sym (bytes-mod 4 (m + 1)) ∙ ap (bytes 4) e ∙ bytes-mod 4 k

-- section 6.2: the number behind the nonce goes up by one
pub next-block : (nonce : List ℕ) (n k : ℕ) → length nonce ≡ 12 → k ≡ (n + 1) % 2 ^ 32 → nonce ++ bytes 4 k ≡ inc32 (nonce ++ bytes 4 n)
unfolding inc32
next-block nonce n k l e =
    ap (λ (x : List ℕ). nonce ++ x) (sym (next-bytes n (number (bytes 4 n)) k (number-bytes 4 n) e))
    ∙ sym (ap₂ (λ (a b : List ℕ). a ++ bytes 4 (number b + 1)) (take_at nonce (bytes 4 n) 12 l) (drop_at nonce (bytes 4 n) 12 l))

pub block-after-next : (nonce : List ℕ) (n k : ℕ) → length nonce ≡ 12 → k ≡ (n + 2) % 2 ^ 32 → nonce ++ bytes 4 k ≡ inc32 (inc32 (nonce ++ bytes 4 n))
block-after-next nonce n k l e =
    let next : ℕ = (n + 1) % 2 ^ 32 in
    next-block nonce next k l (omega arith) ∙ ap inc32 (next-block nonce n next l refl)

-- step 3: the text's first counter block
pub first_block : (nonce : List ℕ) → length nonce ≡ 12 → nonce ++ bytes 4 2 ≡ inc32 (j0 nonce)
unfolding j0
first_block nonce l = next-block nonce 1 2 l refl

-- section 6.5: two blocks of the key stream
pub masks-are : (schedule counter one two : List ℕ) {r : List ℕ} → r ≡ encrypted schedule one ++ encrypted schedule two → one ≡ counter → two ≡ inc32 counter → r ≡ key_stream schedule 2 counter
unfolding key_stream
masks-are schedule counter one two e is next =
    rw (e, is, next, append-nil (encrypted schedule (inc32 counter)))

pub masks-length : (schedule counter : List ℕ) → length (key_stream schedule 2 counter) ≡ 32
unfolding key_stream
masks-length schedule counter =
    length-append (encrypted schedule counter) (key_stream schedule 1 (inc32 counter))
    ∙ ap₂ (λ (m n : ℕ). m + n) (encrypted-length schedule counter) (ap length (append-nil (encrypted schedule (inc32 counter))) ∙ encrypted-length schedule (inc32 counter))

-- ---- a block and the rest
gctr-none : (schedule counter : List ℕ) → gctr schedule counter [] ≡ []
unfolding gctr xor
gctr-none schedule counter = refl

gctr-block : (schedule counter t : List ℕ) → 0 < length t
    → gctr schedule counter t ≡ xor (take 16 t) (encrypted schedule counter) ++ gctr schedule (inc32 counter) (drop 16 t)
unfolding gctr key_stream
gctr-block schedule counter t l =
    let n : ℕ = (length (drop 16 t) + 15) / 16 in
    let count : (length t + 15) / 16 ≡ suc n = omega (arith, length-drop 16 t) in
    let mask : List ℕ = encrypted schedule counter in
    let rest : List ℕ = key_stream schedule n (inc32 counter) in
    ap (λ (m : ℕ). xor t (key_stream schedule m counter)) count
    ∙ xor-append t mask rest
    ∙ ap (λ (m : ℕ). xor (take m t) mask ++ xor (drop m t) rest) (encrypted-length schedule counter)

gctr-any : (schedule counter t : List ℕ) → gctr schedule counter t ≡ xor (take 16 t) (encrypted schedule counter) ++ gctr schedule (inc32 counter) (drop 16 t)
unfolding xor
gctr-any schedule counter [] = gctr-none schedule counter ∙ sym (gctr-none schedule (inc32 counter))
gctr-any schedule counter (x ∷ t) = gctr-block schedule counter (x ∷ t) (omega arith)

gctr-two : (schedule counter t : List ℕ)
    → gctr schedule counter t ≡ xor (take 32 t) (key_stream schedule 2 counter) ++ gctr schedule (inc32 (inc32 counter)) (drop 32 t)
unfolding key_stream
gctr-two schedule counter t =
    let one : List ℕ = encrypted schedule counter in
    let two : List ℕ = encrypted schedule (inc32 counter) in
    let rest : List ℕ = gctr schedule (inc32 (inc32 counter)) (drop 32 t) in
    gctr-any schedule counter t
    ∙ ap (λ (r : List ℕ). xor (take 16 t) one ++ r)
    (gctr-any schedule (inc32 counter) (drop 16 t) ∙ ap (λ (s : List ℕ). xor (part t 16 16) two ++ gctr schedule (inc32 (inc32 counter)) s) (drop-drop 16 16 t))
    ∙ sym (append_assoc (xor (take 16 t) one) (xor (part t 16 16) two) rest)
    ∙ ap (λ (s : List ℕ). s ++ rest)
    (sym (ap (λ (m : List ℕ). xor (take 32 t) (one ++ m)) (append-nil two)
    ∙ xor-append (take 32 t) one two
    ∙ ap (λ (m : ℕ). xor (take m (take 32 t)) one ++ xor (drop m (take 32 t)) two) (encrypted-length schedule counter)
    ∙ ap₂ (λ (a b : List ℕ). xor a one ++ xor b two) (take-take 16 32 t (omega arith)) (drop-taken t 16 16)))

-- ---- a turn of the loop, and its end
-- the piece p in front of s, of 32 bytes or of all there are, and the rest t
module _ (s p t : List ℕ) (e : s ≡ p ++ t) (size : length p ≡ min 32 (length s)) where
  whole-or-last : (length p ≡ 32) ⊎ (t ≡ [])
  whole-or-last =
      let len = length-append p t in
      let most : length p ≤ 32 = omega arith in
      ⊎_elim (λ (q : length p ≡ 32). inl q) (λ (q : length p < 32). inr (nil_from_length t (omega (arith, ap length e)))) (eq-or-lt_of_le most)

  piece-front : take 32 s ≡ p
  piece-front = ⊎_elim (λ (q : length p ≡ 32). ap (take 32) e ∙ take_at p t 32 q)
      (λ (q : t ≡ []). let all : s ≡ p = e ∙ ap (λ (r : List ℕ). p ++ r) q ∙ append-nil p in take_all 32 s (omega (arith, ap length all)) ∙ all) whole-or-last

  pub piece-rest : t ≡ drop 32 s
  piece-rest = ⊎_elim (λ (q : length p ≡ 32). sym (ap (drop 32) e ∙ drop_at p t 32 q))
      (λ (q : t ≡ []). let all : s ≡ p = e ∙ ap (λ (r : List ℕ). p ++ r) q ∙ append-nil p in let few : length s ≤ 32 = omega (arith, ap length all) in q ∙ sym (drop_of_length-le s few)) whole-or-last

  module _ (schedule counter d d' : List ℕ) (at : ℕ) (fits : at ≤ length d) (written : d' ≡ laid d at (xor p (key_stream schedule 2 counter))) where
    pub crypt-turn : laid d' (at + 32) (gctr schedule (inc32 (inc32 counter)) t) ≡ laid d at (gctr schedule counter s)
    crypt-turn =
        let mask : List ℕ = key_stream schedule 2 counter in
        let next : List ℕ = inc32 (inc32 counter) in
        ap (λ (b : List ℕ). laid b (at + 32) (gctr schedule next t)) written
        ∙ ⊎_elim
        (λ (q : length p ≡ 32). laid_more d at (xor p mask) (gctr schedule next t) (at + 32) fits (ap (λ (n : ℕ). at + n) (sym (xor-length p mask ∙ q))))
        (λ (q : t ≡ []).
        let none : gctr schedule next t ≡ [] = ap (gctr schedule next) q ∙ gctr-none schedule next in
        ap (laid (laid d at (xor p mask)) (at + 32)) none
        ∙ laid_none (laid d at (xor p mask)) (at + 32)
        ∙ ap (laid d at) (sym (ap (λ (r : List ℕ). xor p mask ++ r) none ∙ append-nil (xor p mask)))) whole-or-last
        ∙ ap (laid d at) (sym (gctr-two schedule counter s ∙ ap₂ (λ (a b : List ℕ). xor a mask ++ gctr schedule next b) piece-front (sym piece-rest)))

pub crypt-end : (schedule counter s d : List ℕ) (at : ℕ) → length s ≡ 0 → laid d at (gctr schedule counter s) ≡ d
crypt-end schedule counter s d at l = ap (laid d at) (ap (gctr schedule counter) (nil_from_length s l) ∙ gctr-none schedule counter) ∙ laid_none d at
