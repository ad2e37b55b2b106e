-- The first character that is no digit, or the end.
use Prim.Native.Nat.{ℕ}
use Rattle.std.proofs.Common.{rules, tests, ap, ◌∙◌}
use Rattle.std.proofs.lemmas.Iterator.{YieldsList-from_slice}
use Rattle.std.proofs.lemmas.Iterator.Search.{position_from_yields_List}
use Rattle.std.specs.Prelude.{cond, Some, None}
use native.Mathlib.Omega.{arith}
use lib.Dec.{leb, ltb}
use lib.ListN.{length}
use Rattle.digits_reading.specs.Digits.{value_of}
use Rattle.digits_reading.proofs.Values.{run-position, run-le, run-or-end}
use Rattle.digits_reading.proofs.digits.Goals as goal

pub returns : goal.returns
returns c =
    let a = c.args in
    let found = position_from_yields_List (λ (x : ℕ). leb a.base (value_of x)) _ _ c.position.result c.position.ensures.ran (YieldsList-from_slice a.text.now cc) (λ x b q k. search (rules, tests)) in
    let first = found ∙ ap (λ (n : ℕ). cond (ltb n (length a.text.now)) (Some n) None) (run-position a.base a.text.now) in
    let is = c.unwrap_or.ensures ∙ run-or-end a.base a.text.now _ first in
    (is, omega (arith, is, run-le a.base a.text.now))
