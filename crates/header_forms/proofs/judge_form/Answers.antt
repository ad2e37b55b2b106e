-- Each answer is one law.
use mathlib.Core.Path.{sym, ◌∙◌}
use Rattle.header_forms.proofs.Forms.{formed-empty, formed-large, formed-other, formed-right}
use Rattle.header_forms.proofs.judge_form.Goals as goal

pub returns-then-datagram-lt1 : goal.returns-then-datagram-lt1
returns-then-datagram-lt1 c = sym (formed-empty _ _ _ c.if-datagram-lt1.true)

pub returns-then-datagram-gt-LIMIT : goal.returns-then-datagram-gt-LIMIT
returns-then-datagram-gt-LIMIT c = sym (formed-large _ _ _ c.if-datagram-lt1.false c.if-datagram-gt-LIMIT.true)

pub returns-then-datagram-top_bits : goal.returns-then-datagram-top_bits
returns-then-datagram-top_bits c = sym (formed-other _ _ _ c.if-datagram-lt1.false c.if-datagram-gt-LIMIT.false (λ e. c.if-datagram-top_bits.true (e ∙ sym c.top_bits.ensures)))

pub returns : goal.returns
returns c = sym (formed-right _ _ _ c.if-datagram-lt1.false c.if-datagram-gt-LIMIT.false (c.if-datagram-top_bits.false ∙ c.top_bits.ensures))
