-- Below 10 the digits, from there on the letters.
use mathlib.Core.Path.{sym}
use native.Mathlib.Omega.{arith}
use Rattle.digits_writing.proofs.Hex.{low_digit, high_digit}
use Rattle.digits_writing.proofs.digit.Goals as goal

pub returns-in-0-to-9 : goal.returns-in-0-to-9
returns-in-0-to-9 c = sym (low_digit _ (omega arith))

pub returns-in_default : goal.returns-in_default
returns-in_default c = omega (arith, high_digit c.args.value (omega arith))
