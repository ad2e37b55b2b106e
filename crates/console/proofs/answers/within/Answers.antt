-- The two tests say whether the part is there.
use mathlib.Core.Path.{sym}
use native.Mathlib.Omega.{arith}
use Rattle.console.proofs.Judging.{outside, there}
use Rattle.console.proofs.answers.within.Goals as goal

pub returns-then-buffer-start : goal.returns-then-buffer-start
returns-then-buffer-start c = sym (outside _ _ _ (omega arith))

pub returns-then-buffer-start-2 : goal.returns-then-buffer-start-2
returns-then-buffer-start-2 c = sym (outside _ _ _ (omega arith))

pub returns : goal.returns
returns c = sym (there _ _ _ (omega arith))
