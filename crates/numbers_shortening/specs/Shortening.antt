-- RFC 9000 section 17.1: the short number that is sent, over whole numbers.
use Rattle.std.specs.Prelude.{ℕ, zero, suc, ◌+◌, ◌-◌, ◌/◌, ◌%◌, ◌&&◌, leb, ltb}
use Rattle.octets.specs.Outcome.{Outcome, given, unless, ◌>>=◌, ◌>>◌}
use Rattle.numbers.specs.Numbers.{numbers, window, half}

pub data Acknowledged : Type 0 where
  nothing : Acknowledged
  up_to : ℕ → Acknowledged

-- four bytes cover a gap below 2^31, and no length covers a larger one
unfoldable pub coverable : ℕ → Outcome ℕ
coverable g = do
  unless 14 (ltb g (half 4))
  given g

-- how far a number stands above the greatest acknowledged; the number plus one, where none is
unfoldable pub ahead : ℕ → Acknowledged → Outcome ℕ
ahead m nothing = coverable (m + 1)
ahead m (up_to a) = do
  unless 14 (ltb a m)
  coverable (m - a)

unfoldable pub gap : ℕ → Acknowledged → Outcome ℕ
gap m a = do
  unless 10 (ltb m numbers)
  ahead m a

-- how often n can be halved until nothing is left, k times at the most
unfoldable pub halvings : (k n : ℕ) → ℕ
halvings zero n = 0
halvings (suc k) zero = 0
halvings (suc k) (suc n) = 1 + halvings k (suc n / 2)

-- the bit length
abbrev pub bit_length : ℕ → ℕ
bit_length n = halvings n n

-- the bit length of the gap with one added, divided by eight and rounded up
unfoldable pub smallest_length : ℕ → Acknowledged → Outcome ℕ
smallest_length m a = do
  g ← gap m a
  given ((bit_length g + 1 + 7) / 8)

-- the number in n bytes
unfoldable pub shortened : ℕ → Acknowledged → (n : ℕ) → Outcome ℕ
shortened m a n = do
  g ← gap m a
  unless 12 (leb 1 n && leb n 4)
  unless 12 (ltb g (half n))
  given (m % window n)
