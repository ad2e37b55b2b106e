-- Each refusal is one law, and so is the short number.
use mathlib.Core.Path.{sym, ◌∙◌}
use native.Mathlib.Omega.{arith}
use Rattle.octets.proofs.Refusals.{passed-on}
use Rattle.numbers_shortening.proofs.Shortening.{shorten-refused, shorten-empty, shorten-long, shorten-wide, shorten-given}
use Rattle.numbers_shortening.proofs.shorten.Goals as goal

pub returns-then-length-lt1 : goal.returns-then-length-lt1
returns-then-length-lt1 c = record { answer = sym (shorten-empty _ _ _ c.in_ok-distance.ensures (omega arith)) }

pub returns-then-length-gt4 : goal.returns-then-length-gt4
returns-then-length-gt4 c = record { answer = sym (shorten-long _ _ _ c.in_ok-distance.ensures (omega arith) (omega arith)) }

pub returns-then-power-distance : goal.returns-then-power-distance
returns-then-power-distance c = record { answer = sym (shorten-wide _ _ _ c.in_ok-distance.ensures (omega arith) (omega arith) (omega arith)) }

pub returns-in_err-distance : goal.returns-in_err-distance
returns-in_err-distance c = record { answer = passed-on _ _ _ c.from_residual.ensures.1 ∙ sym (shorten-refused _ _ _ c.in_err-distance.ensures) }

pub returns : goal.returns
returns c =
    record { answer = rw c.power-2.ensures (sym (shorten-given _ _ _ c.in_ok-distance.ensures (omega arith) (omega arith) (omega arith))) }
