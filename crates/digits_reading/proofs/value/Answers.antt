-- The arm says where the character stands.
use mathlib.Core.Path.{sym}
use native.Mathlib.Omega.{arith}
use Rattle.digits_reading.proofs.Values.{before-digits, at-digit, before-capitals, at-capital, before-letters, at-letter, behind-letters}
use Rattle.digits_reading.proofs.value.Goals as goal

pub returns-in-48-to-57 : goal.returns-in-48-to-57
returns-in-48-to-57 c = (sym (at-digit _ (omega arith) (omega arith)), omega arith)

pub returns-in-65-to-70 : goal.returns-in-65-to-70
returns-in-65-to-70 c =
    let x = c.args.character in
    (omega (arith, at-capital x (omega arith) (omega arith)), omega arith)

pub returns-in-97-to-102 : goal.returns-in-97-to-102
returns-in-97-to-102 c =
    let x = c.args.character in
    (omega (arith, at-letter x (omega arith) (omega arith)), omega arith)

pub returns-in_default : goal.returns-in_default
returns-in_default c = (sym (before-digits _ (omega arith)), omega arith)

pub returns-in_default-2 : goal.returns-in_default-2
returns-in_default-2 c = (sym (before-capitals _ (omega arith) (omega arith)), omega arith)

pub returns-in_default-3 : goal.returns-in_default-3
returns-in_default-3 c = (sym (before-letters _ (omega arith) (omega arith)), omega arith)

pub returns-in_default-4 : goal.returns-in_default-4
returns-in_default-4 c = (sym (behind-letters _ (omega arith)), omega arith)
