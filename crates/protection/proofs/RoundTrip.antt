-- What was protected is found again, once for every form of header and every suite: the mask comes off, the parts stand where they were put, the number is
-- recovered, the tag matches, the stream undoes itself.
use Prim.Native.Nat.{ℕ, ◌+◌, ◌-◌, ◌/◌, ◌%◌, ◌^◌, ◌≤◌, ◌<◌}
use mathlib.Core.Path.{◌≡◌, sym, ap, ◌∙◌}
use mathlib.Core.List.{List, ◌∷◌, ◌++◌, append_assoc}
use native.Mathlib.Nat.{mod-lt, div-eq_of_lt}
use native.Mathlib.Omega.{arith}
use lib.Bits.{bit_xor, xor_shr, xor_zero_r}
use lib.ListN.{length, get_or, take, drop, length-append}
use lib.Pow.{pow_pos}
use lib.Seq.{take_all, take-append_seam, drop_at, drop-drop}
use Rattle.octets.specs.Outcome.{given}
use Rattle.octets.specs.Octets.{bytes, number, part}
use Rattle.octets.proofs.Numbers.{bytes-length, byte_power, number-bytes}
use Rattle.octets.proofs.Places.{At, begins, past, part_at}
use Rattle.octets.proofs.Same.{equal-same}
use Rattle.octets.proofs.Xor.{xor-twice, xor-undone}
use Rattle.numbers.specs.Numbers.{numbers}
use Rattle.numbers_recovery.specs.Recovery.{decoded, Near}
use Rattle.numbers_recovery.proofs.Recovery.{recovery}
use Rattle.header_forms.specs.Forms.{Form, masked_first, reserved_bits}
use Rattle.protection.specs.Suite.{Suite, Laws}
use Rattle.protection.specs.Protection.{Keys, nonce, on_first, on_number, sample_of}
use Rattle.protection.specs.Clear.{Clear, number_at, plain_header, mask_of, body_with, body_of, protected, unprotected, what_was_protected}
use Rattle.protection.specs.Parts.{Unmasked, plain_in, cipher_in, tag_in}
use Rattle.protection.proofs.Parts.{masked-length}
use Rattle.protection.proofs.Unprotecting.{unprotect-given}

-- ---- the mask
-- what is added to the low bits leaves the others
high_bits : (b low k : ℕ) → low < 2 ^ k → bit_xor b low / 2 ^ k ≡ b / 2 ^ k
high_bits b low k h = xor_shr b low k ∙ rw (div-eq_of_lt h, xor_zero_r (b / 2 ^ k))

-- so the mask leaves what stands above the masked bits: form, fixed bit and type
pub first-kept : (form : Form) (mask : List ℕ) (b : ℕ) → on_first form mask b / 2 ^ form.masked_bits ≡ b / 2 ^ form.masked_bits
unfolding on_first masked_first
first-kept form mask b = high_bits b _ form.masked_bits (mod-lt (get_or mask 0 0) (pow_pos form.masked_bits))

-- laid on twice, it is gone
first_back : (form : Form) (mask : List ℕ) (b : ℕ) → on_first form mask (on_first form mask b) ≡ b
unfolding on_first masked_first
first_back form mask b = xor-twice b _

number-back : (mask bs : List ℕ) → on_number mask (on_number mask bs) ≡ bs
unfolding on_number
number-back mask bs = xor-undone bs (drop 1 mask)

-- the sample, by what stands behind a number of n bytes
sample-behind : (s : List ℕ) (at n : ℕ) (rest : List ℕ) → n ≤ 4 → drop (at + n) s ≡ rest → sample_of s at ≡ part rest (4 - n) 16
unfolding sample_of
sample-behind s at n rest few is =
    let place : at + 4 ≡ at + n + (4 - n) = omega arith in
    rw (place, ← (drop-drop (4 - n) (at + n) s), is)

-- ---- what a packet in the clear must be, so that it is found again
pub record WellMade (form : Form) (c : Clear) : Type 0 where
  pub small : c.packet_number < numbers
  pub positive : 1 ≤ c.number_length
  pub short : c.number_length ≤ 4
  pub enough : 4 ≤ c.number_length + length c.payload
  pub tells-length : c.number_length ≡ c.first % 4 + 1
  pub clear-bits : reserved_bits form c.first ≡ 0

-- from its number on, a packet has as many bytes
abbrev pub length_from : Clear → ℕ
length_from c = c.number_length + length c.payload + 16

pub short-length : (c : Clear) → length (bytes c.number_length c.packet_number) ≡ c.number_length
short-length c = bytes-length c.number_length c.packet_number

pub plain-length : (c : Clear) → length (plain_header c) ≡ number_at c + c.number_length
plain-length c = omega (arith, length-append c.fields (bytes c.number_length c.packet_number), short-length c)

-- ---- what its packet is made of
module _ (suite : Suite) (k : Keys) (c : Clear) where
  abbrev once : List ℕ
  once = nonce k.iv c.packet_number

  abbrev short : List ℕ
  short = bytes c.number_length c.packet_number

  abbrev cipher : List ℕ
  cipher = suite.stream k.key once c.payload

  abbrev tag : List ℕ
  tag = suite.tag k.key once (plain_header c) cipher

  abbrev mask : List ℕ
  mask = mask_of suite k.hp (plain_header c ++ (cipher ++ tag)) (number_at c)

  -- the number under the mask
  abbrev hidden : List ℕ
  hidden = on_number mask short

  hidden-length : length hidden ≡ c.number_length
  hidden-length = masked-length mask short ∙ short-length c

  -- from the number on it is sealed
  abbrev pub from_number : List ℕ
  from_number = hidden ++ (cipher ++ tag)

  module _ (laws : Laws suite) where
    cipher-length : length cipher ≡ length c.payload
    cipher-length = laws.stream-length k.key once c.payload

    tag-length : length tag ≡ 16
    tag-length = laws.tag-length k.key once (plain_header c) cipher

    pub body-length : length (body_of suite k c) ≡ length c.payload + 16
    unfolding body_of body_with
    body-length = omega (arith, length-append cipher tag, cipher-length, tag-length)

    pub from-number-length : length from_number ≡ length_from c
    from-number-length =
        omega (arith, length-append hidden (cipher ++ tag), length-append cipher tag, hidden-length, cipher-length, tag-length)

  module _ (form : Form) where
    -- the first byte under the mask; behind it the fields stand as they were
    abbrev pub hidden_first : ℕ
    hidden_first = on_first form mask c.first

    pub protected-is : protected suite form k c ≡ hidden_first ∷ c.fields ++ from_number
    unfolding protected body_of body_with
    protected-is = ap (λ (s : List ℕ). hidden_first ∷ s) (append_assoc c.fields hidden (cipher ++ tag))

    module _ (laws : Laws suite) where
      pub protected-length : length (protected suite form k c) ≡ number_at c + length_from c
      protected-length = ap length protected-is ∙ omega (arith, length-append c.fields from_number, from-number-length laws)

      -- ---- and found again
      module _ (made : WellMade form c) (packet : List ℕ) (is : packet ≡ hidden_first ∷ c.fields ++ from_number) where
        abbrev at : ℕ
        at = number_at c

        whole : length packet ≡ at + length_from c
        whole = ap length is ∙ omega (arith, length-append c.fields from_number, from-number-length laws)

        at-hidden : At packet at from_number
        at-hidden =
            begins packet at from_number (omega (arith, whole)) (rw is (drop_at (hidden_first ∷ c.fields) from_number at (omega arith)))

        at-cipher : At packet (at + c.number_length) (cipher ++ tag)
        at-cipher = past packet at (at + c.number_length) hidden (cipher ++ tag) at-hidden (rw hidden-length)

        at_tag : At packet (at + length_from c - 16) tag
        at_tag = past packet (at + c.number_length) (at + length_from c - 16) cipher tag at-cipher (omega (arith, cipher-length laws))

        -- the mask leaves the sample as it was
        sample-back : sample_of (plain_header c ++ (cipher ++ tag)) at ≡ sample_of packet at
        sample-back =
            let n = c.number_length in
            sample-behind (plain_header c ++ (cipher ++ tag)) at n (cipher ++ tag) made.short
            (drop_at (plain_header c) (cipher ++ tag) (at + n) (plain-length c))
            ∙ sym (sample-behind packet at n (cipher ++ tag) made.short at-cipher.there)

        unmasked : Unmasked suite form k packet at mask c.first c.number_length short
        unmasked = record {
          its-mask = ap (suite.mask k.hp) sample-back;
          its-first = sym (ap (on_first form mask) (rw is) ∙ first_back form mask c.first);
          its-length = made.tells-length;
          its-number =
              sym (ap (on_number mask) (part_at packet at c.number_length hidden (cipher ++ tag) at-hidden hidden-length) ∙ number-back mask short);
        }

        -- the parts that the tag and the stream are taken of
        plain_back : plain_in packet at c.first short ≡ plain_header c
        plain_back =
            let inner : at - 1 ≡ length c.fields = omega arith in
            rw (inner, is, take-append_seam c.fields from_number)

        cipher-back : cipher_in packet at (length_from c) c.number_length ≡ cipher
        cipher-back =
            part_at packet (at + c.number_length) (length_from c - c.number_length - 16) cipher tag at-cipher (omega (arith, cipher-length laws))

        tag_back : tag_in packet at (length_from c) ≡ tag
        tag_back = ap (take 16) at_tag.there ∙ take_all 16 tag (omega (arith, tag-length laws))

        number-again : (e : ℕ) → Near e c.packet_number c.number_length → c.packet_number ≡ decoded e (number short) c.number_length
        number-again e near =
            sym (rw (number-bytes c.number_length c.packet_number, byte_power c.number_length)
            (recovery e c.packet_number c.number_length made.positive near made.small))

        found-again : (e : ℕ) → Near e c.packet_number c.number_length → unprotected suite form k e packet at ≡ given (what_was_protected c packet)
        found-again e near =
            let tagged : tag ≡ suite.tag k.key once (plain_in packet at c.first short) (cipher_in packet at (length_from c) c.number_length)
            = rw (plain_back, cipher-back) in
            ap (λ (s : List ℕ). unprotected suite form k e s at) (sym (take_all (at + length_from c) packet (omega (arith, whole))))
            ∙ unprotect-given e unmasked (length_from c) (omega arith) (omega (arith, made.enough)) (omega (arith, whole)) made.clear-bits
            (number-again e near) made.small tagged (equal-same (tag_in packet at (length_from c)) tag tag_back)
            ∙ rw (plain_back, cipher-back, laws.stream-twice k.key once c.payload, whole)

      pub unprotected-back : WellMade form c → (e : ℕ) → Near e c.packet_number c.number_length
          → unprotected suite form k e (protected suite form k c) (number_at c) ≡ given (what_was_protected c (protected suite form k c))
      unprotected-back made = found-again made (protected suite form k c) protected-is
