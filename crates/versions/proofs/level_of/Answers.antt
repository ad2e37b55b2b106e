-- One comparison after the other.
use mathlib.Core.Path.{sym, ◌∙◌}
use Rattle.versions.proofs.Versions.{level-initial, level-zero-rtt, level-handshake, level-none}
use Rattle.versions.proofs.level_of.Goals as goal

pub returns-then-kind-type_for : goal.returns-then-kind-type_for
returns-then-kind-type_for c = sym (level-initial _ _ (c.if-kind-type_for.true ∙ c.type_for.ensures))

pub returns-then-kind-type_for-2 : goal.returns-then-kind-type_for-2
returns-then-kind-type_for-2 c =
    sym (level-zero-rtt _ _ (λ e. c.if-kind-type_for.false (e ∙ sym c.type_for.ensures)) (c.if-kind-type_for-2.true ∙ c.type_for-2.ensures))

pub returns-then-kind-type_for-3 : goal.returns-then-kind-type_for-3
returns-then-kind-type_for-3 c =
    sym (level-handshake _ _ (λ e. c.if-kind-type_for.false (e ∙ sym c.type_for.ensures)) (λ e. c.if-kind-type_for-2.false (e ∙ sym c.type_for-2.ensures))
    (c.if-kind-type_for-3.true ∙ c.type_for-3.ensures))

pub returns : goal.returns
returns c =
    sym (level-none _ _ (λ e. c.if-kind-type_for.false (e ∙ sym c.type_for.ensures)) (λ e. c.if-kind-type_for-2.false (e ∙ sym c.type_for-2.ensures))
    (λ e. c.if-kind-type_for-3.false (e ∙ sym c.type_for-3.ensures)))
