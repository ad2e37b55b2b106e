-- Demand 3 is not empty: seven datagrams, with loss, a repeat, a late packet and rubbish between, over a suite that computes.
use Rattle.std.specs.Prelude.{ℕ, ◌+◌, ◌≡◌, List, [], ◌∷◌, ◌++◌, take, replicate}
use Rattle.octets.specs.Outcome.{refused, given}
use Rattle.octets.specs.Octets.{bytes, number, xor}
use Rattle.numbers_shortening.specs.Shortening.{nothing}
use Rattle.versions.specs.Levels.{initial}
use Rattle.header_writing.specs.Written.{holding, Plain}
use Rattle.header_forms.specs.Rules.{in_force}
use Rattle.protection.specs.Suite.{Suite}
use Rattle.protection.specs.Protection.{Keys}
use Rattle.packets.specs.Packet.{packet_of}
use Rattle.receiver.specs.Receiver.{Yield, yields, expected_after, Parcel, rubbish, parcel, Coming, arrivals}

-- the nonce for a stream, a sum for a tag, the sample for a mask: nothing secret, and every law holds
unfoldable pub toy : Suite
toy = record {
  stream = λ key nonce text. xor text nonce;
  tag = λ key nonce associated cipher. bytes 16 (number key + number nonce + number associated + number cipher);
  mask = λ hp sample. take 5 (xor sample hp);
}

-- RFC 9001 appendix A.1, the client's
unfoldable pub keys : Keys
keys = record {
  version = 1;
  level = initial;
  key = bytes 16 0x1f369613dd76d5467730efcbe3b1a22d;
  iv = bytes 12 0xfa044b2f42a3fd3b46fb255c;
  hp = bytes 16 0x9f50449e04a0e810283a1e9933adedd2;
}

-- packet m to the connection 8394, with m four times for its payload
unfoldable pub plain_of : (m : ℕ) → Plain
plain_of m = record {
  destination = 0x83 ∷ 0x94 ∷ [];
  source = [];
  token = holding [];
  payload = m ∷ m ∷ m ∷ m ∷ [];
  packet_number = m;
  number_length = 1;
}

unfoldable pub sealed_of : (m : ℕ) → List ℕ
sealed_of m = packet_of toy in_force keys (plain_of m)

-- every buffer has twenty bytes
abbrev pub lent : List ℕ
lent = replicate 20 0xaa

-- packet m comes, and two bytes behind it
unfoldable pub parcel_of : (m : ℕ) → Parcel
parcel_of m = record { plain = plain_of m; acknowledged = nothing; room = 33; packet = sealed_of m; behind = 0xff ∷ 0xff ∷ [] }

unfoldable pub comes : (m : ℕ) → Coming
comes m = record { sent = parcel (parcel_of m); buffer = lent }

-- nothing at all, which is refusal 1; and packet 4 without its last byte and with another there, which is refusal 11
unfoldable pub empty : Coming
empty = record { sent = rubbish [] 1; buffer = lent }

unfoldable pub damaged : Coming
damaged = record { sent = rubbish (take 32 (sealed_of 4) ++ (0 ∷ [])) 11; buffer = lent }

-- 0, 2, 2 again, 4 and then 3; 1 is lost
unfoldable pub coming : List Coming
coming = comes 0 ∷ empty ∷ comes 2 ∷ comes 2 ∷ damaged ∷ comes 4 ∷ comes 3 ∷ []

-- packet m opened: its header as bytes, Length being 21, then its payload; three bytes of the buffer stay
unfoldable pub opens : (m expected : ℕ) → Yield
opens m expected =
    let header : List ℕ = 0xc0 ∷ 0 ∷ 0 ∷ 0 ∷ 1 ∷ 2 ∷ 0x83 ∷ 0x94 ∷ 0 ∷ 0 ∷ 0x40 ∷ 21 ∷ m ∷ [] in
    let payload : List ℕ = m ∷ m ∷ m ∷ m ∷ [] in
    record {
      outcome = given (record { packet_number = m; number_length = 1; plain = header; payload = payload; used = 33 });
      buffer = header ++ payload ++ (0xaa ∷ 0xaa ∷ 0xaa ∷ []);
      expected = expected;
    }

unfoldable pub refuses : (n expected : ℕ) → Yield
refuses n expected = record { outcome = refused n; buffer = lent; expected = expected }

pub record Example : Type 0 where
  pub each : yields toy keys 0 (arrivals coming) ≡ opens 0 1 ∷ refuses 1 1 ∷ opens 2 3 ∷ opens 2 3 ∷ refuses 11 3 ∷ opens 4 5 ∷ opens 3 5 ∷ []
  pub last : expected_after toy keys 0 (arrivals coming) ≡ 5
