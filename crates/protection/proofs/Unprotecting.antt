-- What lies under the protection, by what the tests show, in their order: over what is computed from a datagram whose packet has its number at a place
-- and len bytes from there on.
use Prim.Native.Nat.{ℕ, ◌+◌, ◌-◌, ◌≤◌, ◌<◌}
use mathlib.Core.Path.{◌≡◌, refl, sym, ap, ◌∙◌}
use mathlib.Core.List.{List}
use mathlib.Core.Bool.{Bool, true, false}
use native.Mathlib.Omega.{arith}
use lib.Dec.{ltb, eqb}
use lib.ListN.{length, get_or, take, drop}
use lib.Seq.{get_or-take, length-take-le}
use borrow.Author.Tests.{lt-ltb, le-ltb, eq-eqb, ne_eqb, ltb-true, ltb-false}
use Rattle.octets.specs.Outcome.{refused, given, unless, ◌>>◌}
use Rattle.octets.specs.Octets.{Bytes, number, part, same}
use Rattle.octets.proofs.Outcome.{apart, given-same}
use Rattle.octets.proofs.Parts.{part_length, part-taken}
use Rattle.octets.proofs.Bytes.{part_bytes, drop-bytes, xor_bytes}
use Rattle.octets.proofs.Numbers.{number-below}
use Rattle.numbers.specs.Numbers.{numbers, window}
use Rattle.numbers_recovery.specs.Recovery.{decoded, recovered}
use Rattle.numbers_recovery.proofs.Recovery.{recover-range, recover-given}
use Rattle.header_forms.specs.Forms.{Form, reserved_bits}
use Rattle.header_fields.specs.Fields.{least_length, tag_length}
use Rattle.protection.specs.Suite.{Suite}
use Rattle.protection.specs.Protection.{Keys, nonce, on_first, on_number, sample_of}
use Rattle.protection.specs.Clear.{mask_of, Opened, revealed, decrypted, unprotected}
use Rattle.protection.specs.Parts.{Unmasked, plain_in, cipher_in, tag_in}
use Rattle.protection.proofs.Parts.{cipher-part, tag-part, masked-length}

-- ---- the number's bytes
module _ {suite : Suite} {form : Form} {k : Keys} {d : List ℕ} {at : ℕ} {mask : List ℕ} {first n : ℕ} {short : List ℕ} (u : Unmasked suite form k d at mask first n short) where
  -- one to four
  pub number-few : n ≤ 4
  number-few = omega (arith, u.its-length)

  pub number-some : 1 ≤ n
  number-some = omega (arith, u.its-length)

  pub number-length : at + n ≤ length d → length short ≡ n
  number-length h = ap length u.its-number ∙ masked-length mask (part d at n) ∙ part_length d at n h

  pub number-bytes : Bytes d → Bytes mask → Bytes short
  unfolding on_number
  number-bytes bs ms = rw u.its-number (xor_bytes (part d at n) (drop 1 mask) (part_bytes d at n bs) (drop-bytes 1 mask ms))

  pub number_small : at + n ≤ length d → Bytes short → number short < window n
  number_small h bs = rw (← (number-length h)) (number-below short bs)

-- ---- recovering it
module _ (e t n : ℕ) (fair : e ≤ numbers) (some : 1 ≤ n) (few : n ≤ 4) (small : t < window n) where
  pub recovery-refused : {j : ℕ} → refused j ≡ recovered e t n → (j ≡ 10) × (numbers ≤ decoded e t n)
  recovery-refused {j} is = by (ltb (decoded e t n) numbers) refl
    where
      by : (b : Bool) → ltb (decoded e t n) numbers ≡ b → (j ≡ 10) × (numbers ≤ decoded e t n)
      by true p = absurd (apart (is ∙ recover-given e t n fair some few small (ltb-true (decoded e t n) numbers p)))
      by false p =
          let beyond = ltb-false (decoded e t n) numbers p in
          let ten = is ∙ recover-range e t n fair some few small beyond in
          (cc, beyond)

  pub recovery-given : {m : ℕ} → given m ≡ recovered e t n → (m ≡ decoded e t n) × (m < numbers)
  recovery-given {m} is = by (ltb (decoded e t n) numbers) refl
    where
      by : (b : Bool) → ltb (decoded e t n) numbers ≡ b → (m ≡ decoded e t n) × (m < numbers)
      by true p =
          let within = ltb-true (decoded e t n) numbers p in
          let same = given-same (is ∙ recover-given e t n fair some few small within) in
          (same, omega arith)
      by false p = absurd (apart (sym (is ∙ recover-range e t n fair some few small (ltb-false (decoded e t n) numbers p))))

-- ---- the packet that begins the datagram has the same parts
record There (suite : Suite) (form : Form) (k : Keys) (d : List ℕ) (at len : ℕ) (mask : List ℕ) (first n : ℕ) (short : List ℕ) : Type 0 where
  mask-there : mask_of suite k.hp (take (at + len) d) at ≡ mask
  first-there : on_first form mask (get_or (take (at + len) d) 0 0) ≡ first
  short-there : on_number mask (part (take (at + len) d) at n) ≡ short
  fields-there : part (take (at + len) d) 1 (at - 1) ≡ part d 1 (at - 1)
  cipher-there : take (length (drop (at + n) (take (at + len) d)) - tag_length) (drop (at + n) (take (at + len) d)) ≡ cipher_in d at len n
  tag-there : drop (length (drop (at + n) (take (at + len) d)) - tag_length) (drop (at + n) (take (at + len) d)) ≡ tag_in d at len

parts-there : {suite : Suite} {form : Form} {k : Keys} {d : List ℕ} {at : ℕ} {mask : List ℕ} {first n : ℕ} {short : List ℕ} → Unmasked suite form k d at mask first n short
    → (len : ℕ) → 1 ≤ at → least_length ≤ len → at + len ≤ length d → There suite form k d at len mask first n short
unfolding sample_of
parts-there {suite} {form} {k} {d} {at} {mask} {first} {n} {short} u len some enough all =
    let few = number-few u in
    record {
      mask-there = ap (suite.mask k.hp) (part-taken d (at + len) (at + 4) 16 all (omega arith)) ∙ sym u.its-mask;
      first-there = ap (on_first form mask) (get_or-take (at + len) d 0 0 (omega arith)) ∙ sym u.its-first;
      short-there = ap (on_number mask) (part-taken d (at + len) at n all (omega arith)) ∙ sym u.its-number;
      fields-there = part-taken d (at + len) 1 (at - 1) all (omega arith);
      cipher-there = cipher-part d at len n all (omega arith);
      tag-there = tag-part d at len n all (omega arith);
    }

-- ---- refusals in their order, then what was opened
module _ {suite : Suite} {form : Form} {k : Keys} (e : ℕ) {d : List ℕ} {at : ℕ} {mask : List ℕ} {first n : ℕ} {short : List ℕ}
    (u : Unmasked suite form k d at mask first n short) (len : ℕ) (some : 1 ≤ at) (enough : least_length ≤ len) (all : at + len ≤ length d) where
  there : There suite form k d at len mask first n short
  there = parts-there u len some enough all

  pub unprotect-reserved : (reserved_bits form first ≡ 0 → ⊥) → unprotected suite form k e (take (at + len) d) at ≡ refused 9
  unfolding unprotected revealed
  unprotect-reserved bits = rw (there.mask-there, there.first-there, ne_eqb (reserved_bits form first) 0 bits)

  module _ (zeros : reserved_bits form first ≡ 0) where
    reserved : eqb (reserved_bits form first) 0 ≡ true
    reserved = eq-eqb (reserved_bits form first) 0 zeros

    pub unprotect-range : numbers ≤ decoded e (number short) n → unprotected suite form k e (take (at + len) d) at ≡ refused 10
    unfolding unprotected revealed
    unprotect-range beyond =
        rw (
          there.mask-there,
          there.first-there,
          reserved,
          ← u.its-length,
          there.short-there,
          le-ltb (decoded e (number short) n) numbers beyond,
        )

    -- the number, and the tag of what was received under it
    module _ {m : ℕ} (full : m ≡ decoded e (number short) n) (small : m < numbers)
        {tag : List ℕ} (tagged : tag ≡ suite.tag k.key (nonce k.iv m) (plain_in d at first short) (cipher_in d at len n)) where
      abbrev found : Opened
      found = record {
        packet_number = m;
        number_length = n;
        plain = plain_in d at first short;
        payload = suite.stream k.key (nonce k.iv m) (cipher_in d at len n);
        used = at + len;
      }

      -- the tag alone is left to be judged, all of it
      pub unprotect-judged : unprotected suite form k e (take (at + len) d) at ≡ (unless 11 (same (tag_in d at len) tag) >> given found)
      unfolding unprotected revealed decrypted
      unprotect-judged =
          rw (
            there.mask-there,
            there.first-there,
            reserved,
            ← u.its-length,
            there.short-there,
            ← full,
            lt-ltb m numbers small,
            there.fields-there,
            there.cipher-there,
            there.tag-there,
            ← tagged,
            length-take-le (at + len) d all,
          )
          refl

      pub unprotect-given : same (tag_in d at len) tag ≡ true → unprotected suite form k e (take (at + len) d) at ≡ given found
      unprotect-given matches = unprotect-judged ∙ rw matches
