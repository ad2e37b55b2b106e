-- A word of a call, judged by the name that the manual has for it.
use Rattle.std.specs.Prelude.{ℕ, ◌-◌, ◌%◌, ◌^◌, Bool, false, cond, ◌&&◌, ◌||◌, List, eqb, leb, length, Result, Ok, Err}
use Rattle.octets.specs.Octets.{same}
use Rattle.octets.specs.Text.{ascii}
use Rattle.digits_reading.specs.Digits.{run}
use Rattle.digits_numbers.specs.Numbers.{number_of}
use Rattle.digits_numbers.specs.declared.NumberError.{NumberError}
use Rattle.console.specs.Fields.{dash}

-- ---- a word
-- whether it is hex digits, an even count of them, or the mark for nothing
unfoldable pub is_hex : List ℕ → Bool
is_hex t = same t dash || (leb (length t) (run 16 t) && eqb (length t % 2) 0)

-- whether a number was read, and is a largest one or below
abbrev pub at_most : ℕ → Result ℕ NumberError → Bool
at_most largest (Ok n) = leb n largest
at_most largest (Err e) = false

-- whether it spells a number up to a largest one
abbrev pub is_number : ℕ → List ℕ → Bool
is_number largest t = at_most largest (number_of t)

-- whether it names a side
unfoldable pub is_side : List ℕ → Bool
is_side t = same t (ascii "client") || same t (ascii "server")

-- ---- a word and its name
-- whether a name asks for a number
unfoldable pub is_count : List ℕ → Bool
is_count name =
    same name (ascii "NUMBER") || (same name (ascii "LENGTH") || (same name (ascii "EXPECTED") || same name (ascii "LOW-BITS")))

-- whether a word is what its name asks: a file may have any name, and all other names ask for hex
unfoldable pub is_right : List ℕ → List ℕ → Bool
is_right t name =
    cond (same name (ascii "VERSION")) (is_number (2 ^ 32 - 1) t)
    (cond (same name (ascii "client|server")) (is_side t)
    (cond (same name (ascii "ACKNOWLEDGED")) (same t dash || is_number (2 ^ 64 - 1) t)
    (cond (is_count name) (is_number (2 ^ 64 - 1) t)
    (same name (ascii "FILE") || is_hex t))))
