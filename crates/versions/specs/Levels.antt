-- RFC 9001 section 4: the encryption levels of packets with long headers, by the numbers that key records have for them. Any other number names none.
use Rattle.std.specs.Prelude.{ℕ, Bool, ◌||◌, eqb}

abbrev pub initial : ℕ
initial = 0

abbrev pub zero_rtt : ℕ
zero_rtt = 1

abbrev pub handshake : ℕ
handshake = 2

-- RFC 9000 section 17.2.2: Initial packets alone have a token
abbrev pub has_token : (level : ℕ) → Bool
has_token level = eqb level initial

-- sections 17.2.3 and 17.2.4: 0-RTT and Handshake packets have none
abbrev pub has_no_token : (level : ℕ) → Bool
has_no_token level = eqb level zero_rtt || eqb level handshake
