use Prim.Native.Nat.{ℕ, ◌+◌, ◌-◌}
use mathlib.Core.Path.{◌≡◌, ap, ◌∙◌}
use native.Mathlib.Omega.{arith}
use Rattle.std.proofs.Common.{rules, tests}
use Rattle.std.proofs.lemmas.Iterator.{YieldsList-from_slice}
use Rattle.std.proofs.lemmas.Iterator.Search.{position_from_yields_List}
use lib.ListN.{length, drop, length-drop}
use lib.Seq.{take_all}
use Rattle.terminal_words.specs.Words.{is_not}
use Rattle.terminal_words.proofs.Separators.{until-le, until-or-end}
use Rattle.terminal_words.proofs.past_separators.Goals as goal

pub returns : goal.returns
returns c =
    let a = c.args in
    let rest = drop a.start a.text.now in
    let long : length a.text.now - a.start ≡ length rest = omega (arith, length-drop a.start a.text.now) in
    let all = take_all (length a.text.now - a.start) rest (omega arith) in
    let found =
    position_from_yields_List (is_not a.separator) _ _ c.position.result c.position.ensures.ran
    (YieldsList-from_slice rest (c.iter.ensures.rest ∙ all)) (λ x b q k. search (rules, tests)) in
    let reached = c.unwrap_or.ensures ∙ until-or-end (is_not a.separator) rest _ _ long found in
    (omega arith, omega (arith, reached, until-le (is_not a.separator) rest), ap (λ (n : ℕ). a.start + n) reached)
