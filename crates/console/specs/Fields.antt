-- The words of a call, read.
use Rattle.std.specs.Prelude.{ℕ, List, Result, Ok, Err}
use Rattle.octets.specs.Text.{ascii}
use Rattle.digits_numbers.specs.declared.NumberError.{NumberError}

-- the word for nothing, and for standard input
abbrev pub dash : List ℕ
dash = ascii "-"

-- a number that was read, and 0 where there is none
abbrev pub value_or0 : Result ℕ NumberError → ℕ
value_or0 (Ok n) = n
value_or0 (Err e) = 0
