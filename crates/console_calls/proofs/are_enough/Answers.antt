-- Both counts are compared.
use Prim.Native.Nat.{ℕ, ◌-◌}
use mathlib.Core.Path.{sym, ap, ◌∙◌}
use Rattle.console_calls.proofs.Judging.{enough-when, enough-not}
use Rattle.console_calls.proofs.are_enough.Goals as goal

pub returns-then-given-wanted : goal.returns-then-given-wanted
returns-then-given-wanted c =
    let given = c.saturating_sub-given.ensures ∙ ap (λ (n : ℕ). n - 1) c.count.ensures in
    let wanted = c.saturating_sub-wanted.ensures ∙ ap (λ (n : ℕ). n - 2) c.count-2.ensures in
    sym (enough-when _ _ _ _ given wanted c.if-given-wanted.true)

pub returns : goal.returns
returns c =
    let given = c.saturating_sub-given.ensures ∙ ap (λ (n : ℕ). n - 1) c.count.ensures in
    let wanted = c.saturating_sub-wanted.ensures ∙ ap (λ (n : ℕ). n - 2) c.count-2.ensures in
    sym (enough-not _ _ _ _ given wanted c.if-given-wanted.false)
