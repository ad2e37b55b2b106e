-- Each refusal is one law, and so is what is found.
use mathlib.Core.Path.{sym, ◌∙◌}
use Rattle.header_forms.specs.Answers.{form_of}
use Rattle.protection.specs.KeyRecord.{keys_of}
use Rattle.open_revealing.proofs.Revealing.{reveals-refused, bits-refused, range-refused, packet-revealed}
use Rattle.open_revealing.proofs.reveal.Goals as goal

pub returns-then-reserved_bits-ne0 : goal.returns-then-reserved_bits-ne0
returns-then-reserved_bits-ne0 c =
    let a = c.args in
    bits-refused (form_of a.form) (keys_of a.keys) a.expected a.datagram.now a.place a.length c.requires c.unmask-first.ensures
    (λ zeros. c.if-reserved_bits-ne0.true (c.reserved_bits.ensures ∙ zeros))

pub returns-in_err-number : goal.returns-in_err-number
returns-in_err-number c =
    let a = c.args in
    let zeros = sym c.reserved_bits.ensures ∙ c.if-reserved_bits-ne0.false in
    reveals-refused (form_of a.form) (keys_of a.keys) a.expected a.datagram.now a.place a.length _ _ c.from_residual.ensures.1
    (range-refused (form_of a.form) (keys_of a.keys) a.expected a.datagram.now a.place a.length c.requires c.unmask-first.ensures zeros c.in_err-number.ensures.answer)

pub returns : goal.returns
returns c =
    let a = c.args in
    let zeros = sym c.reserved_bits.ensures ∙ c.if-reserved_bits-ne0.false in
    packet-revealed (form_of a.form) (keys_of a.keys) a.expected a.datagram.now a.place a.length c.requires c.unmask-first.ensures zeros _ c.in_ok-number.ensures.answer
