-- Each refusal is one law, and so is the version with what its type is taken for.
use mathlib.Core.Path.{sym, ◌∙◌}
use native.Mathlib.Omega.{arith}
use Rattle.octets.proofs.Refusals.{passed-on}
use Rattle.header_long.specs.Answers.{judge_of}
use Rattle.header_long.proofs.LongHeaders.{version-there, judged-none, judged-unknown, judged-other, judged-type, judged-right}
use Rattle.header_long.proofs.judge_version.Goals as goal

pub returns-in_err-version : goal.returns-in_err-version
returns-in_err-version c = passed-on _ _ _ c.from_residual.ensures.1 ∙ sym (judged-none _ _ c.in_err-version.ensures)

pub returns-then-not-is_known : goal.returns-then-not-is_known
returns-then-not-is_known c = sym (judged-unknown _ _ c.in_ok-version.ensures (sym c.is_known.ensures ∙ c.if-not-is_known.true))

pub returns-then-not-is_taken : goal.returns-then-not-is_taken
returns-then-not-is_taken c =
    let ours = sym c.is_known.ensures ∙ c.if-not-is_known.false in
    sym (judged-other _ _ c.in_ok-version.ensures ours (sym c.is_taken.ensures ∙ c.if-not-is_taken.true))

pub bounds-datagram-0 : goal.bounds-datagram-0
bounds-datagram-0 c =
    let there = version-there _ c.in_ok-version.ensures in
    omega arith

pub returns-in_err-kind : goal.returns-in_err-kind
returns-in_err-kind c =
    let ours = sym c.is_known.ensures ∙ c.if-not-is_known.false in
    let taken = sym c.is_taken.ensures ∙ c.if-not-is_taken.false in
    passed-on _ _ _ c.from_residual-in_err-kind.ensures.1 ∙ sym (judged-type (judge_of c.args.judge) _ c.in_ok-version.ensures ours taken c.in_err-kind.ensures)

pub returns : goal.returns
returns c =
    let ours = sym c.is_known.ensures ∙ c.if-not-is_known.false in
    let taken = sym c.is_taken.ensures ∙ c.if-not-is_taken.false in
    sym (judged-right (judge_of c.args.judge) _ c.in_ok-version.ensures ours taken c.in_ok-kind.ensures)
