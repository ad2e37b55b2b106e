use mathlib.Core.Path.{◌≡◌, sym, ap, ◌∙◌}
use native.Mathlib.Omega.{arith}
use Prim.Native.Nat.{ℕ, ◌+◌, ◌*◌}
use Rattle.gcm_field.specs.Field.{num, nexts}
use Rattle.gcm_field.proofs.Linear.{nexts-none, nexts-add}
use Rattle.gcm_table.proofs.Filling.{filled-key, filled-table}
use Rattle.gcm_table.proofs.make_table.Goals as goal

pub loop-run-init : goal.loop-run-init
loop-run-init c = (sym (nexts-none (num c.args.h)), λ j k. absurd (omega arith))

pub loop-run-preserved : goal.loop-run-preserved
loop-run-preserved c =
    let l = c.loop-run in
    let h = num c.args.h in
    let more : 16 * l.run + 16 ≡ 16 * (l.run + 1) = omega arith in (
      c.next_run-v.ensures ∙ ap (nexts 16) l.invariant.0 ∙ sym (nexts-add (16 * l.run) 16 h) ∙ ap (λ (n : ℕ). nexts n h) more,
      λ j k. c.fill_run.ensures h l.invariant.0 l.invariant.1 j (omega arith),
    )

pub invariant_of-result : goal.invariant_of-result
invariant_of-result c =
    let l = c.loop-run in
    record { is_table = filled-table (num c.args.h) l.entries (λ j k. l.invariant.1 j (omega arith)) }

pub returns : goal.returns
returns c =
    let l = c.loop-run in
    filled-key (num c.args.h) l.entries (λ j k. l.invariant.1 j (omega arith))
