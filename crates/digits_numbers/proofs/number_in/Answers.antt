-- The run of digits says whether all characters are digits.
use Prim.Native.Nat.{ℕ}
use mathlib.Core.Path.{sym, ap, ◌∙◌}
use native.Mathlib.Omega.{arith}
use lib.ListN.{length}
use borrow.Author.Tests.{eqb-true, eqb-false}
use Rattle.digits_numbers.specs.Numbers.{fitting}
use Rattle.digits_numbers.proofs.Reading.{no_digit, nothing, all_digits}
use Rattle.digits_numbers.proofs.number_in.Goals as goal
use Rattle.digits_numbers.proofs.number_in.Goals.{then-is_empty-via-then-is_empty, then-is_empty-via-else-is_empty+then-digits-text}

pub returns-then-is_empty : goal.returns-then-is_empty
returns-then-is_empty c =
    let a = c.args in
    elim c.then-is_empty.branch [
      | then-is_empty-via-then-is_empty w ↦ sym (nothing a.base a.text.now (omega (arith, eqb-true (length a.text.now) 0 (sym w.if-is_empty.ensures))))
      | then-is_empty-via-else-is_empty+then-digits-text w ↦ sym (no_digit a.base a.text.now (omega arith))
    ]

pub returns : goal.returns
returns c =
    let a = c.args in
    c.spell.ensures
    ∙ ap (λ (b : ℕ). fitting b a.text.now) c.from.ensures
    ∙ sym (all_digits a.base a.text.now (omega (arith, eqb-false _ _ (sym c.if-is_empty.ensures))) (omega arith))
