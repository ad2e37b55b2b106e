-- Each branch is a clause of the definition; no sum leaves a word.
use mathlib.Core.Path.{sym}
use Rattle.numbers_recovery.proofs.Recovery.{decoded-above, decoded-top, decoded-below, decoded-bottom, decoded-here}
use Rattle.numbers_recovery.proofs.decode.Goals as goal
use Rattle.numbers_recovery.proofs.decode.Goals.{else-candidate-half-via-then-candidate-half+else-candidate-window-lt-NUMBERS, else-candidate-half-via-else-candidate-half}
use Rattle.numbers_recovery.proofs.decode.Goals.{else-expected-half-via-then-expected-half+else-window-candidate, else-expected-half-via-else-expected-half}

pub returns-then-candidate-window-lt-NUMBERS : goal.returns-then-candidate-window-lt-NUMBERS
returns-then-candidate-window-lt-NUMBERS c =
    let w = c.power-window.ensures in
    let h = c.power-half.ensures in
    rw w (sym (decoded-above _ _ _ (rw (w, h) at c.if-candidate-half.true) (rw w at c.if-candidate-window-lt-NUMBERS.true)))

pub returns-then-window-candidate : goal.returns-then-window-candidate
returns-then-window-candidate c =
    let w = c.power-window.ensures in
    let h = c.power-half.ensures in
    rw w (sym (decoded-below _ _ _ (rw (h, w) at c.if-expected-half.true) (rw w at c.if-window-candidate.true)))

pub returns : goal.returns
returns c =
    let w = c.power-window.ensures in
    let h = c.power-half.ensures in
    rw w (sym (elim c.else-expected-half.branch [
      | else-expected-half-via-then-expected-half+else-window-candidate x ↦ decoded-bottom _ _ _ (rw (h, w) at x.if-expected-half.true) (rw w at x.if-window-candidate.false)
      | else-expected-half-via-else-expected-half x ↦ elim c.else-candidate-half.branch [
        | else-candidate-half-via-then-candidate-half+else-candidate-window-lt-NUMBERS y ↦ decoded-top _ _ _ (rw (w, h) at y.if-candidate-half.true) (rw w at y.if-candidate-window-lt-NUMBERS.false)
        | else-candidate-half-via-else-candidate-half y ↦ decoded-here _ _ _ (rw (w, h) at y.if-candidate-half.false) (rw (w, h) at x.if-expected-half.false)
      ]
    ]))
