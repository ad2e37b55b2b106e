-- Each refusal is one law, and so is the number.
use mathlib.Core.Path.{sym, ap, ◌∙◌}
use native.Mathlib.Omega.{arith}
use Rattle.octets.specs.Outcome.{given}
use Rattle.numbers_recovery.proofs.Recovery.{recover-far, recover-empty, recover-long, recover-wide, recover-range, recover-given}
use Rattle.numbers_recovery.proofs.recover.Goals as goal

pub returns-then-expected-gt-NUMBERS : goal.returns-then-expected-gt-NUMBERS
returns-then-expected-gt-NUMBERS c = record { answer = sym (recover-far _ _ _ (omega arith)) }

pub returns-then-length-lt1 : goal.returns-then-length-lt1
returns-then-length-lt1 c = record { answer = sym (recover-empty _ _ _ (omega arith) (omega arith)) }

pub returns-then-length-gt4 : goal.returns-then-length-gt4
returns-then-length-gt4 c = record { answer = sym (recover-long _ _ _ (omega arith) (omega arith) (omega arith)) }

pub returns-then-power-truncated : goal.returns-then-power-truncated
returns-then-power-truncated c = record { answer = sym (recover-wide _ _ _ (omega arith) (omega arith) (omega arith) (omega arith)) }

pub returns-then-full-ge-NUMBERS : goal.returns-then-full-ge-NUMBERS
returns-then-full-ge-NUMBERS c = record { answer = sym (recover-range _ _ _ (omega arith) (omega arith) (omega arith) (omega arith) (omega arith)) }

pub returns : goal.returns
returns c =
    record { answer = ap given c.decode-full.ensures ∙ sym (recover-given _ _ _ (omega arith) (omega arith) (omega arith) (omega arith) (omega arith)) }
