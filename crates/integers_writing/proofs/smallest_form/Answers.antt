-- Each form's length.
use mathlib.Core.Path.{sym}
use native.Mathlib.Omega.{arith}
use Rattle.integers_writing.proofs.Forms.{one-length, two-length, four-length}
use Rattle.integers_writing.proofs.smallest_form.Goals as goal

pub returns-then-value-lt64 : goal.returns-then-value-lt64
returns-then-value-lt64 c = sym (one-length _ (omega arith))

pub returns-then-value-lt16384 : goal.returns-then-value-lt16384
returns-then-value-lt16384 c = sym (two-length _ (omega arith) (omega arith))

pub returns : goal.returns
returns c = sym (four-length _ (omega arith))
