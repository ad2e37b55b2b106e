-- The arm says which character it is.
use mathlib.Core.Logic.{⊎_elim}
use mathlib.Core.Path.{sym}
use native.Mathlib.Omega.{arith}
use Rattle.terminal.proofs.Blanks.{blank, tab, carriage-return, no-blank}
use Rattle.terminal.proofs.lines.without_blank.Goals as goal

pub returns-in-32 : goal.returns-in-32
returns-in-32 c =
    ⊎_elim
    (λ t. sym (tab _ t))
    (λ rest. ⊎_elim (λ r. sym (carriage-return _ r)) (λ b. sym (blank _ b)) rest)
    c.in-32.is

pub returns-in_default : goal.returns-in_default
returns-in_default c = sym (no-blank _ (λ e. grind arith) (λ e. grind arith) (λ e. grind arith))
