use mathlib.Core.Path.{sym, ◌∙◌}
use native.Mathlib.Omega.{arith}
use Rattle.console_calls.proofs.Judging.{usage-found, usage-passed, usage-none}
use Rattle.console_calls.proofs.usage_of.Goals as goal

pub returns-then-same : goal.returns-then-same
returns-then-same c =
    let a = c.args in
    let l = c.loop-i in
    let usage = c.word-usage.ensures in
    let name = c.word.ensures in
    let told = sym c.same.ensures in
    usage-found a.manual.now a.command.now l.i (omega arith) usage name (told ∙ c.if-same.true) ∙ l.invariant

pub loop-i-preserved : goal.loop-i-preserved
loop-i-preserved c =
    let a = c.args in
    let l = c.loop-i in
    let usage = c.word-usage.ensures in
    let name = c.word.ensures in
    let told = sym c.same.ensures in
    usage-passed a.manual.now a.command.now l.i (omega arith) usage name (told ∙ c.if-same.false) ∙ l.invariant

pub returns : goal.returns
returns c =
    let a = c.args in
    let l = c.loop-i in
    sym (usage-none a.manual.now a.command.now l.i (omega arith)) ∙ l.invariant
