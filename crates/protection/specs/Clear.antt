-- A packet's protection put on and taken off: RFC 9001 sections 5.3 and 5.4, over any suite and any form of header. What the fields mean is not known here.
use Rattle.std.specs.Prelude.{ℕ, ◌+◌, ◌-◌, ◌%◌, List, ◌∷◌, ◌++◌, ltb, eqb, length, get_or, take, drop}
use Rattle.octets.specs.Outcome.{Outcome, given, unless, ◌>>=◌, ◌>>◌}
use Rattle.octets.specs.Octets.{bytes, number, part, same}
use Rattle.numbers.specs.Numbers.{numbers}
use Rattle.numbers_recovery.specs.Recovery.{decoded}
use Rattle.header_forms.specs.Forms.{Form, reserved_bits}
use Rattle.header_fields.specs.Fields.{tag_length}
use Rattle.protection.specs.Suite.{Suite}
use Rattle.protection.specs.Protection.{Keys, nonce, on_first, on_number, sample_of}

-- ---- a packet in the clear: its first byte, the fields up to its number, the number and the payload
pub record Clear : Type 0 where
  pub first : ℕ
  pub fields : List ℕ
  pub packet_number : ℕ
  pub number_length : ℕ
  pub payload : List ℕ

abbrev pub number_at : Clear → ℕ
number_at c = 1 + length c.fields

-- the associated data
abbrev pub plain_header : Clear → List ℕ
plain_header c = c.first ∷ c.fields ++ bytes c.number_length c.packet_number

module _ (suite : Suite) where
  abbrev pub mask_of : (hp packet : List ℕ) (number_at : ℕ) → List ℕ
  mask_of hp packet at = suite.mask hp (sample_of packet at)

  -- the encrypted payload, and the tag over a header and it
  unfoldable pub body_with : (key once header payload : List ℕ) → List ℕ
  body_with key once header payload =
      let cipher = suite.stream key once payload in
      cipher ++ suite.tag key once header cipher

  -- over the packet's plain header
  unfoldable pub body_of : Keys → Clear → List ℕ
  body_of k c = body_with k.key (nonce k.iv c.packet_number) (plain_header c) c.payload

  -- protection comes after the payload is encrypted: the mask, by a sample of the packet, over the first byte and the number
  unfoldable pub protected : Form → Keys → Clear → List ℕ
  protected form k c =
      let mask = mask_of k.hp (plain_header c ++ body_of k c) (number_at c) in
      on_first form mask c.first ∷ c.fields ++ on_number mask (bytes c.number_length c.packet_number) ++ body_of k c

-- ---- what is found under the protection
-- under the mask: the first byte, the number's length that it tells, the number's bytes and the number
pub record Revealed : Type 0 where
  pub first : ℕ
  pub number_length : ℕ
  pub short : List ℕ
  pub packet_number : ℕ

pub record Opened : Type 0 where
  pub packet_number : ℕ
  pub number_length : ℕ
  pub plain : List ℕ
  pub payload : List ℕ
  pub used : ℕ

module _ (suite : Suite) where
  -- section 5.4, undone; hp alone is needed for it
  unfoldable pub revealed : Form → (hp : List ℕ) (expected : ℕ) (packet : List ℕ) (number_at : ℕ) → Outcome Revealed
  revealed form hp e packet at = do
    let mask = mask_of suite hp packet at
    let first = on_first form mask (get_or packet 0 0)
    let n = first % 4 + 1
    let short = on_number mask (part packet at n)
    unless 9 (eqb (reserved_bits form first) 0)
    let m = decoded e (number short) n
    unless 10 (ltb m numbers)
    given (record { first = first; number_length = n; short = short; packet_number = m })

  -- section 5.3, undone
  unfoldable pub decrypted : (key iv packet : List ℕ) (number_at : ℕ) → Revealed → Outcome Opened
  decrypted key iv packet at r = do
    let plain = r.first ∷ part packet 1 (at - 1) ++ r.short
    let body = drop (at + r.number_length) packet
    let cipher = take (length body - tag_length) body
    let once = nonce iv r.packet_number
    unless 11 (same (drop (length body - tag_length) body) (suite.tag key once plain cipher))
    given (record {
      packet_number = r.packet_number;
      number_length = r.number_length;
      plain = plain;
      payload = suite.stream key once cipher;
      used = length packet;
    })

  -- both, of a packet whose number stands at a place
  unfoldable pub unprotected : Form → Keys → (expected : ℕ) (packet : List ℕ) (number_at : ℕ) → Outcome Opened
  unprotected form k e packet at = do
    r ← revealed form k.hp e packet at
    decrypted k.key k.iv packet at r

-- all that went into a packet, and how long it is
abbrev pub what_was_protected : Clear → (packet : List ℕ) → Opened
what_was_protected c packet = record {
  packet_number = c.packet_number;
  number_length = c.number_length;
  plain = plain_header c;
  payload = c.payload;
  used = length packet;
}
