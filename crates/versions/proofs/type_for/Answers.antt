-- One comparison after the other.
use mathlib.Core.Path.{◌∙◌}
use Rattle.versions.proofs.Versions.{type-initial, type-zero-rtt, type-handshake}
use Rattle.versions.proofs.type_for.Goals as goal

pub returns-then-level-eq-INITIAL : goal.returns-then-level-eq-INITIAL
returns-then-level-eq-INITIAL c = c.initial_type.ensures ∙ type-initial _ _ c.if-level-eq-INITIAL.true

pub returns-then-level-eq-ZERO_RTT : goal.returns-then-level-eq-ZERO_RTT
returns-then-level-eq-ZERO_RTT c = c.zero_rtt_type.ensures ∙ type-zero-rtt _ _ c.if-level-eq-INITIAL.false c.if-level-eq-ZERO_RTT.true

pub returns : goal.returns
returns c = c.handshake_type.ensures ∙ type-handshake _ _ c.if-level-eq-INITIAL.false c.if-level-eq-ZERO_RTT.false
