-- What is found under the mask, before the tag is judged.
use Rattle.std.specs.Prelude.{ℕ, ◌+◌, ◌≤◌, ◌<◌, ◌≡◌, List, length, take, Result, Ok, Err}
use Rattle.octets.specs.Outcome.{Outcome, refused, given, unless, ◌>>◌}
use Rattle.octets.specs.Octets.{same}
use Rattle.octets.specs.Refusals.{number_of}
use Rattle.octets.specs.declared.refusal.Refusal.{Refusal}
use Rattle.numbers.specs.Numbers.{numbers}
use Rattle.header_forms.specs.Forms.{Form}
use Rattle.header_fields.specs.Fields.{least_length}
use Rattle.gcm_counter.specs.Counter.{stream}
use Rattle.gcm.specs.Gcm.{tag}
use Rattle.protection.specs.Protection.{Keys, nonce}
use Rattle.protection.specs.Clear.{Opened, unprotected}
use Rattle.protection.specs.AesGcm.{aes_gcm}
use Rattle.open_unmasking.specs.Parts.{plain_of, cipher_of, tag_of}
use Rattle.open_unmasking.specs.declared.Packet.{Packet}

-- a packet that lies whole in a datagram behind its header, and a number that may be expected
pub record Placed (expected : ℕ) (d : List ℕ) (place len : ℕ) : Type 0 where
  pub fair : expected ≤ numbers
  pub headed : 1 ≤ place
  pub enough : least_length ≤ len
  pub all : place + len ≤ length d

-- what is given if the tag is right
abbrev pub opened_as : Keys → List ℕ → Packet → Opened
opened_as k d p = record {
  packet_number = p.number.0;
  number_length = p.count;
  plain = plain_of d p;
  payload = stream k.key (nonce k.iv p.number.0) (cipher_of d p);
  used = p.place + p.length;
}

-- what is left to be judged: the tag
abbrev pub tag_left : Keys → List ℕ → Packet → Outcome Opened
tag_left k d p =
    unless 11 (same (tag_of d p) (tag k.key (nonce k.iv p.number.0) (plain_of d p) (cipher_of d p))) >> given (opened_as k d p)

-- all but the tag is judged
pub record Revealed (form : Form) (k : Keys) (expected : ℕ) (d : List ℕ) (place len : ℕ) (p : Packet) : Type 0 where
  pub stands : p.place ≡ place
  pub counts : p.length ≡ len
  pub few : p.count ≤ 4
  pub small : p.number.0 < numbers
  pub left : unprotected aes_gcm form k expected (take (place + len) d) place ≡ tag_left k d p

abbrev pub Reveals : Form → Keys → (expected : ℕ) (d : List ℕ) (place len : ℕ) → Result Packet Refusal → Type 0
Reveals form k expected d place len (Err why) = unprotected aes_gcm form k expected (take (place + len) d) place ≡ refused (number_of why)
Reveals form k expected d place len (Ok p) = Revealed form k expected d place len p
