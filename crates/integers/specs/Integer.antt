-- RFC 9000 section 16: variable-length integers.
use Rattle.std.specs.Prelude.{ℕ, ◌-◌, ◌*◌, ◌/◌, ◌%◌, ◌^◌, List, leb, length, get_or, take}
use Rattle.octets.specs.Outcome.{Outcome, given, unless, ◌>>◌}
use Rattle.octets.specs.Octets.{number}

pub record Integer : Type 0 where
  pub value : ℕ
  pub taken : ℕ

-- the first byte's top two bits are the base-2 logarithm of how many bytes there are; all the other bits are the value.
-- What stands behind isn't looked at.
unfoldable pub integer : List ℕ → Outcome Integer
integer s = do
  unless 3 (leb 1 (length s))
  let taken = 2 ^ (get_or s 0 0 / 64)
  unless 3 (leb taken (length s))
  given (record { value = number (take taken s) % 2 ^ (8 * taken - 2); taken = taken })
