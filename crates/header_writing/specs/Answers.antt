-- The code's plain packet as what it stands for.
use Rattle.std.specs.Prelude.{ℕ, ◌≡◌, ◌+◌, Bool, List, Option, Some, None, length}
use Rattle.std.specs.Borrow.{Bor}
use Rattle.integers_writing.specs.Written.{smallest}
use Rattle.header_writing.specs.Written as Section17
use Rattle.header_writing.specs.Written.{writes}
use Rattle.header_writing.specs.declared.Plain as Code

-- a packet has a field for a token, or none
abbrev pub token_of : Option (Bor (List ℕ)) → Section17.TokenField
token_of (Some token) = Section17.holding token.now
token_of None = Section17.absent

-- how many bytes a token takes with its field
abbrev pub token_size : Option (Bor (List ℕ)) → ℕ
token_size (Some token) = length (smallest (length token.now)) + length token.now
token_size None = 0

-- whether keys of a level write it
abbrev pub WrittenBy : Option (Bor (List ℕ)) → (level : ℕ) → Bool → Type 0
WrittenBy token level r = r ≡ writes (token_of token) level

abbrev pub plain_of : Code.Plain → Section17.Plain
plain_of p = record {
  destination = p.destination.now;
  source = p.source.now;
  token = token_of p.token;
  payload = p.payload.now;
  packet_number = p.number.0;
  number_length = p.number_length;
}
