-- The hex digits of bytes.
use Rattle.std.specs.Prelude.{ℕ, ◌+◌, ◌*◌, ◌/◌, ◌%◌, min, ◌≡◌, cond, List, [], ◌∷◌, ltb, length, take}
use Rattle.octets.specs.Octets.{begun}

-- the hex digit of a number below 16, in lower case
unfoldable pub digit_of : ℕ → ℕ
digit_of v = cond (ltb v 10) (48 + v) (87 + v)

-- two hex digits for each byte
unfoldable pub hex : List ℕ → List ℕ
hex [] = []
hex (b ∷ s) = digit_of (b / 16) ∷ digit_of (b % 16) ∷ hex s

-- what encoding leaves in a buffer, and answers
pub record Encoded (s before after : List ℕ) (count : ℕ) : Type 0 where
  pub counted : count ≡ 2 * min (length s) (length before / 2)
  pub holds : after ≡ begun (take count (hex s)) before
