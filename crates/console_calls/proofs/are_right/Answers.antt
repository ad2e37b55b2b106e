use mathlib.Core.Path.{sym, ◌∙◌}
use native.Mathlib.Omega.{arith}
use Rattle.console_calls.proofs.Judging.{right-passed, right-stopped, right_end}
use Rattle.console_calls.proofs.are_right.Goals as goal

pub returns-then-not-is_asked : goal.returns-then-not-is_asked
returns-then-not-is_asked c =
    let a = c.args in
    let l = c.loop-i in
    let word = c.word.ensures in
    let name = c.word-in-loop-i.ensures in
    let told = sym c.is_asked.ensures in
    sym (right-stopped a.line.now a.usage.now c.requires l.i (omega arith) (omega arith) word name (told ∙ c.if-not-is_asked.true)) ∙ l.invariant

pub loop-i-preserved : goal.loop-i-preserved
loop-i-preserved c =
    let a = c.args in
    let l = c.loop-i in
    let word = c.word.ensures in
    let name = c.word-in-loop-i.ensures in
    let told = sym c.is_asked.ensures in
    sym (right-passed a.line.now a.usage.now c.requires l.i (omega arith) (omega arith) word name (told ∙ c.if-not-is_asked.false)) ∙ l.invariant

pub returns : goal.returns
returns c =
    let a = c.args in
    let l = c.loop-i in
    sym (right_end a.line.now a.usage.now c.requires l.i (omega arith) (omega arith)) ∙ l.invariant
