-- Demand 3 at all levels is not empty: packets of three levels in one list, and rubbish among them that another level sealed.
use Rattle.std.specs.Prelude.{ℕ, ◌+◌, ◌≡◌, cond, List, [], ◌∷◌, ◌++◌}
use Rattle.octets.specs.Outcome.{refused, given}
use Rattle.receivers.specs.Receivers.{answers, final, arrivals}
use Rattle.receivers.specs.Openings.{Standing}
use Rattle.receivers.specs.Spaces.{Each, in_all}
use Rattle.numbers_shortening.specs.Shortening.{nothing}
use Rattle.versions.specs.Levels.{initial, zero_rtt, handshake, has_token}
use Rattle.header_forms.specs.Rules.{in_force}
use Rattle.header_writing.specs.Written.{holding, absent, Plain}
use Rattle.packets.specs.Packet.{packet_of}
use Rattle.receiver.specs.Receiver.{Yield, Parcel, rubbish, parcel}
use Rattle.receiver.specs.Levels.{Ring, receiver, LeveledComing, promise}
use Rattle.receiver.specs.Example.{toy, keys, lent}

-- for each level the keys of the other example, as keys of that level
unfoldable pub ring : Ring
ring level = record { version = 1; level = level; key = keys.key; iv = keys.iv; hp = keys.hp }

-- packet m of a level to the connection 8394, with m four times for its payload
unfoldable pub plain_at : (level m : ℕ) → Plain
plain_at level m = record {
  destination = 0x83 ∷ 0x94 ∷ [];
  source = [];
  token = cond (has_token level) (holding []) absent;
  payload = m ∷ m ∷ m ∷ m ∷ [];
  packet_number = m;
  number_length = 1;
}

unfoldable pub sealed_at : (level m : ℕ) → List ℕ
sealed_at level m = packet_of toy in_force (ring level) (plain_at level m)

unfoldable pub parcel_at : (level m : ℕ) → Parcel
parcel_at level m = record { plain = plain_at level m; acknowledged = nothing; room = 33; packet = sealed_at level m; behind = [] }

unfoldable pub comes_at : (level m : ℕ) → LeveledComing
comes_at level m = record { level = level; coming = record { sent = parcel (parcel_at level m); buffer = lent } }

-- a Handshake packet that is handed to the Initial keys, which is refusal 6
unfoldable pub strays : LeveledComing
strays = record { level = initial; coming = record { sent = rubbish (sealed_at handshake 7) 6; buffer = lent } }

-- Initial 0, Handshake 0, the stray one, 0-RTT 5, Initial 1
unfoldable pub mixed : List LeveledComing
mixed = comes_at initial 0 ∷ comes_at handshake 0 ∷ strays ∷ comes_at zero_rtt 5 ∷ comes_at initial 1 ∷ []

unfoldable pub start : Standing Ring (Each ℕ)
start = record { holding = ring; kept = in_all 0 }

-- a packet opened: its header by its first byte and its token's field, then its payload; what is left of the buffer stays
unfoldable pub opens_at : (first : ℕ) (token : List ℕ) (m expected used : ℕ) (left : List ℕ) → Yield
opens_at first token m expected used left =
    let header : List ℕ = (first ∷ 0 ∷ 0 ∷ 0 ∷ 1 ∷ 2 ∷ 0x83 ∷ 0x94 ∷ 0 ∷ []) ++ token ++ (0x40 ∷ 21 ∷ m ∷ []) in
    let payload : List ℕ = m ∷ m ∷ m ∷ m ∷ [] in
    record {
      outcome = given (record { packet_number = m; number_length = 1; plain = header; payload = payload; used = used });
      buffer = header ++ payload ++ left;
      expected = expected;
    }

abbrev three : List ℕ
three = 0xaa ∷ 0xaa ∷ 0xaa ∷ []

pub record LevelsExample : Type 0 where
  -- each level has its type, an Initial alone its token's length, and each space its numbers
  pub each : answers (receiver toy) start (arrivals promise mixed)
      ≡ opens_at 0xc0 (0 ∷ []) 0 1 33 three
      ∷ opens_at 0xe0 [] 0 1 32 (0xaa ∷ three)
      ∷ record { outcome = refused 6; buffer = lent; expected = 1 }
      ∷ opens_at 0xd0 [] 5 6 32 (0xaa ∷ three)
      ∷ opens_at 0xc0 (0 ∷ []) 1 2 33 three
      ∷ []
  pub last : (final (receiver toy) start (arrivals promise mixed)).kept ≡ record { of_initial = 2; of_handshake = 1; of_application = 6 }
