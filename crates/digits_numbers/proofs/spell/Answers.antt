use Prim.Native.Nat.{ℕ, ◌+◌, ◌*◌, ◌^◌, ◌≤◌, ◌<◌}
use mathlib.Core.Path.{◌≡◌, sym, ap, ◌∙◌}
use native.Mathlib.Omega.{arith}
use Rattle.std.proofs.Common.{rules}
use lib.ListN.{get_or, length, drop}
use Rattle.std.specs.Prelude.{Ok}
use Rattle.digits_reading.specs.Digits.{value_of}
use Rattle.digits_numbers.specs.Numbers.{read_on, spelled}
use Rattle.digits_numbers.proofs.Reading.{grows, read-turn, read-ends, fits, wraps, was_too_large, was_there}
use Rattle.digits_numbers.proofs.spell.Goals as goal

pub returns-in_err-shifted : goal.returns-in_err-shifted
returns-in_err-shifted c =
    let l = c.loop-character in
    let a = c.args in
    let text = a.text.now in
    let i = l.character-index in
    let inside : i < length text = omega arith in
    let large : l.number * a.base < 2 ^ 64 → ⊥ = was_too_large _ _ _ _ c.checked_mul.ensures (sym c.ok_or.ensures.value ∙ c.in_err-shifted.was) in
    let next : ℕ = l.number * a.base + value_of (get_or text i 0) in
    let larger = grows a.base next (drop (i + 1) text) c.requires in
    let all : 2 ^ 64 ≤ spelled a.base text = omega (arith, large, larger, read-turn a.base l.number text i inside, l.invariant.1) in
    let is = wraps a.base text all in
    rw is (search rules)

pub returns-in_err-number : goal.returns-in_err-number
returns-in_err-number c =
    let l = c.loop-character in
    let a = c.args in
    let text = a.text.now in
    let i = l.character-index in
    let d = c.from-digit.result in
    let inside : i < length text = omega arith in
    let shifted : c.in_ok-shifted.shifted ≡ l.number * a.base = was_there _ _ _ _ c.checked_mul.ensures (sym c.ok_or.ensures.value ∙ c.in_ok-shifted.was) in
    let large : c.in_ok-shifted.shifted + d < 2 ^ 64 → ⊥ = was_too_large _ _ _ _ c.checked_add.ensures (sym c.ok_or-in-loop-character.ensures.value ∙ c.in_err-number.was) in
    let digit : d ≡ value_of (get_or text i 0) = c.from-digit.ensures ∙ c.value.ensures.0 in
    let next : ℕ = l.number * a.base + value_of (get_or text i 0) in
    let larger = grows a.base next (drop (i + 1) text) c.requires in
    let all : 2 ^ 64 ≤ spelled a.base text = omega (arith, large, larger, read-turn a.base l.number text i inside, l.invariant.1, shifted, digit) in
    let is = wraps a.base text all in
    rw is (search rules)

pub loop-character-preserved : goal.loop-character-preserved
loop-character-preserved c =
    let l = c.loop-character in
    let a = c.args in
    let text = a.text.now in
    let i = l.character-index in
    let d = c.from-digit.result in
    let inside : i < length text = omega arith in
    let shifted : c.in_ok-shifted.shifted ≡ l.number * a.base = was_there _ _ _ _ c.checked_mul.ensures (sym c.ok_or.ensures.value ∙ c.in_ok-shifted.was) in
    let added : c.in_ok-number.number ≡ c.in_ok-shifted.shifted + d = was_there _ _ _ _ c.checked_add.ensures (sym c.ok_or-in-loop-character.ensures.value ∙ c.in_ok-number.was) in
    let digit : d ≡ value_of (get_or text i 0) = c.from-digit.ensures ∙ c.value.ensures.0 in
    let next : c.in_ok-number.number ≡ l.number * a.base + value_of (get_or text i 0) = omega (arith, shifted, added, digit) in
    (omega arith, ap (λ (n : ℕ). read_on a.base n (drop (i + 1) text)) next ∙ read-turn a.base l.number text i inside ∙ l.invariant.1)

pub returns : goal.returns
returns c =
    let l = c.loop-character in
    let a = c.args in
    let text = a.text.now in
    let end : length text ≤ l.character-index = omega arith in
    let is = sym (read-ends a.base l.number text l.character-index end) ∙ l.invariant.1 in
    ap Ok is ∙ sym (fits a.base text (omega (arith, is)))
