-- The number that digits spell in a base.
use Rattle.std.specs.Prelude.{ℕ, ◌+◌, ◌*◌, ◌^◌, Bool, cond, ◌&&◌, leb, ltb, eqb, length, get_or, drop, Result, Ok, Err}
use mathlib.Core.List.{List, foldl}
use Rattle.digits_reading.specs.Digits.{value_of, run}
use Rattle.digits_numbers.specs.declared.NumberError.{NumberError}
use Rattle.digits_numbers.specs.declared.NumberError.TheVariants.{NoNumber, TooLarge}

-- the number that the digits of a text spell, behind what was read before them
unfoldable pub read_on : ℕ → ℕ → List ℕ → ℕ
read_on base = foldl (λ n c. n * base + value_of c)

-- the number that a text spells
abbrev pub spelled : ℕ → List ℕ → ℕ
spelled base = read_on base 0

-- the number that digits spell, where it fits 64 bits
unfoldable pub fitting : ℕ → List ℕ → Result ℕ NumberError
fitting base t = cond (ltb (spelled base t) (2 ^ 64)) (Ok (spelled base t)) (Err TooLarge)

-- the number that a text spells, if it is made of digits, one or more
unfoldable pub number_in : ℕ → List ℕ → Result ℕ NumberError
number_in base t = cond (leb 1 (length t) && leb (length t) (run base t)) (fitting base t) (Err NoNumber)

-- whether a text is marked as hex: by 0x, with something behind it
unfoldable pub marked : List ℕ → Bool
marked t = ltb 2 (length t) && (eqb (get_or t 0 0) 48 && eqb (get_or t 1 0) 120)

-- the number that a text spells: in hex behind 0x, and else in decimal
unfoldable pub number_of : List ℕ → Result ℕ NumberError
number_of t = cond (marked t) (number_in 16 (drop 2 t)) (number_in 10 t)
