-- RFC 9000 sections 15 and 17.2 and docs/SCOPE.md, "Constants": the versions, and all that differs between them. RFC 9001 for version 1, the version 2 draft for 0x709a50c4.
use Rattle.std.specs.Prelude.{ℕ, List, Bool, ◌||◌, cond, eqb}
use Rattle.octets.specs.Outcome.{Outcome, refused, given}
use Rattle.octets.specs.Octets.{bytes}
use Rattle.octets.specs.Text.{ascii}
use Rattle.versions.specs.Levels.{initial, zero_rtt, handshake}

pub record Version : Type 0 where
  pub number : ℕ
  pub salt : List ℕ
  pub key_label : List ℕ
  pub iv_label : List ℕ
  pub hp_label : List ℕ
  pub initial_type : ℕ
  pub zero_rtt_type : ℕ
  pub handshake_type : ℕ
  pub retry_type : ℕ
  pub retry_key : List ℕ
  pub retry_nonce : List ℕ

unfoldable pub version1 : Version
version1 = record {
  number = 0x00000001;
  salt = bytes 20 0x38762cf7f55934b34d179ae6a4c80cadccbb7f0a;
  key_label = ascii "quic key";
  iv_label = ascii "quic iv";
  hp_label = ascii "quic hp";
  initial_type = 0;
  zero_rtt_type = 1;
  handshake_type = 2;
  retry_type = 3;
  retry_key = bytes 16 0xbe0c690b9f66575a1d766b54e368c84e;
  retry_nonce = bytes 12 0x461599d35d632bf2239825bb;
}

unfoldable pub draft2 : Version
draft2 = record {
  number = 0x709a50c4;
  salt = bytes 20 0xa707c203a59b47184a1d62ca570406ea7ae3e5d3;
  key_label = ascii "quicv2 key";
  iv_label = ascii "quicv2 iv";
  hp_label = ascii "quicv2 hp";
  initial_type = 1;
  zero_rtt_type = 2;
  handshake_type = 3;
  retry_type = 0;
  retry_key = bytes 16 0xba858dc7b43de5dbf87617ff4ab253db;
  retry_nonce = bytes 12 0x141b99c239b03e785d6a2e9f;
}

unfoldable pub known : ℕ → Bool
known v = eqb v version1.number || eqb v draft2.number

-- the constants of a known version
unfoldable pub version : ℕ → Version
version v = cond (eqb v version1.number) version1 draft2

-- ---- RFC 9000 section 17.2: the types of long headers
-- the type that a version writes for a level; a level without a long header has none, and what stands for it is never written
unfoldable pub type_for : Version → (level : ℕ) → ℕ
type_for row level = cond (eqb level initial) row.initial_type (cond (eqb level zero_rtt) row.zero_rtt_type row.handshake_type)

-- the level that a type is of; Retry is of none
unfoldable pub level_of : Version → (type : ℕ) → Outcome ℕ
level_of row type =
    cond (eqb type row.initial_type) (given initial)
    (cond (eqb type row.zero_rtt_type) (given zero_rtt)
    (cond (eqb type row.handshake_type) (given handshake) (refused 6)))
