-- The packet at a buffer's start: the plain header, the body behind it, and the mask over both.
use Prim.Native.Nat.{ℕ, suc, ◌+◌, ◌≤◌}
use mathlib.Core.Path.{◌≡◌, refl, sym, ap, ap₂, ◌∙◌}
use mathlib.Core.List.{List, ◌∷◌, ◌++◌, append_assoc}
use native.Mathlib.Omega.{arith}
use lib.ListN.{length, take, drop, length-append}
use lib.Seq.{take_at, drop_at}
use Rattle.octets.specs.Octets.{bytes, part, laid, begun}
use Rattle.octets.proofs.Parts.{part-front, regroup}
use Rattle.octets.proofs.Buffers.{begun-front, goes_on}
use Rattle.aes_byte_rounds.specs.Cipher.{cipher}
use Rattle.header_forms.specs.Forms.{Form}
use Rattle.protection.specs.Protection.{Keys, nonce, on_first, on_number, sample_of, masked}
use Rattle.protection.specs.Clear.{Clear, number_at, plain_header, body_with, body_of, protected}
use Rattle.protection.specs.AesGcm.{aes_gcm}
use Rattle.protection.proofs.Parts.{masked-length}
use Rattle.protection.proofs.RoundTrip.{short-length, plain-length, body-length, protected-length}
use Rattle.protection.proofs.AesGcmLaws.{aes-gcm-laws}

-- as many elements laid over others leave what stands before and behind them
relaid : (a b b' c : List ℕ) (at : ℕ) → at ≡ length a → length b' ≡ length b → laid (a ++ (b ++ c)) at b' ≡ a ++ b' ++ c
relaid a b b' c at here same =
    let end : length (a ++ b) ≡ at + length b' = length-append a b ∙ omega arith in
    rw (take_at a (b ++ c) at (sym here), ← (append_assoc a b c), drop_at (a ++ b) c (at + length b') end)

-- the mask over a first byte, fields, a number and what stands behind
mask-over : (form : Form) (mask f s rest : List ℕ) (b n : ℕ) → length s ≡ n
    → masked form mask (suc (length f)) n (b ∷ (f ++ (s ++ rest))) ≡ on_first form mask b ∷ (f ++ on_number mask s ++ rest)
unfolding masked
mask-over form mask f s rest b n is =
    let number : part (b ∷ (f ++ (s ++ rest))) (suc (length f)) n ≡ s
    = ap (take n) (drop_at f (s ++ rest) (length f) refl) ∙ take_at s rest n is in
    rw number (relaid (on_first form mask b ∷ f) s (on_number mask s) rest (suc (length f)) refl (masked-length mask s))

module _ (form : Form) (k : Keys) (c : Clear) where
  abbrev header : List ℕ
  header = plain_header c

  abbrev body : List ℕ
  body = body_of aes_gcm k c

  abbrev short : List ℕ
  short = bytes c.number_length c.packet_number

  size : length body ≡ length c.payload + 16
  size = body-length aes_gcm k c aes-gcm-laws

  -- plain header and body, before the mask
  body-behind : (out one two : List ℕ) (place : ℕ) → place ≡ number_at c → one ≡ begun header out
      → two ≡ laid one (place + c.number_length) (body_with aes_gcm k.key (nonce k.iv c.packet_number) (take (place + c.number_length) one) c.payload)
      → two ≡ begun (header ++ body) out
  unfolding body_of
  body-behind out one two place here begins then =
      let end : place + c.number_length ≡ length header = omega (arith, plain-length c) in
      let plain : take (place + c.number_length) one ≡ header
      = rw begins (begun-front header out (place + c.number_length) (sym end)) in
      goes_on header body out one two (place + c.number_length) begins
      (then ∙ ap (λ (h : List ℕ). laid one (place + c.number_length) (body_with aes_gcm k.key (nonce k.iv c.packet_number) h c.payload)) plain) end

  -- the sample reaches into the tag at the furthest
  sample-inside : (rest : List ℕ) → 4 ≤ c.number_length + length c.payload → sample_of ((header ++ body) ++ rest) (number_at c) ≡ sample_of (header ++ body) (number_at c)
  unfolding sample_of
  sample-inside rest enough =
      part-front (header ++ body) rest (number_at c + 4) 16 (omega (arith, length-append header body, plain-length c, size))

  pub protected-laid : (out one two mask three : List ℕ) (place : ℕ) → 4 ≤ c.number_length + length c.payload
      → place ≡ number_at c
      → one ≡ begun header out
      → two ≡ laid one (place + c.number_length) (body_with aes_gcm k.key (nonce k.iv c.packet_number) (take (place + c.number_length) one) c.payload)
      → mask ≡ cipher k.hp (sample_of two place)
      → three ≡ masked form mask place c.number_length two
      → three ≡ begun (protected aes_gcm form k c) out
  unfolding protected
  protected-laid out one two mask three place enough here begins behind sampled over =
      let rest : List ℕ = drop (length (header ++ body)) out in
      let whole = body-behind out one two place here begins behind in
      let m : List ℕ = cipher k.hp (sample_of (header ++ body) (number_at c)) in
      let is : mask ≡ m = sampled ∙ ap (cipher k.hp) (ap₂ sample_of whole here ∙ sample-inside rest enough) in
      let at : place ≡ suc (length c.fields) = omega (arith, here) in
      let same : length (protected aes_gcm form k c) ≡ length (header ++ body)
      = protected-length aes_gcm k c form aes-gcm-laws ∙ omega (arith, length-append header body, plain-length c, size) in
      let masked-is : masked form mask place c.number_length two ≡ on_first form m c.first ∷ (c.fields ++ on_number m short ++ (body ++ rest))
      = rw (is, at, whole, regroup c.fields short body rest)
      (mask-over form m c.fields short (body ++ rest) c.first c.number_length (short-length c)) in
      over ∙ masked-is
      ∙ sym (append_assoc (on_first form m c.first ∷ (c.fields ++ on_number m short)) body rest)
      ∙ ap (λ (n : ℕ). protected aes_gcm form k c ++ drop n out) (sym same)
