-- Each refusal is one law, and so is what is found.
use mathlib.Core.Path.{refl, sym, ◌∙◌}
use native.Mathlib.Omega.{arith}
use Rattle.header_forms.specs.Rules.{in_force}
use Rattle.header_forms.specs.Forms.{long_form}
use Rattle.header_forms.proofs.Forms.{formed-fits}
use Rattle.header_reading.proofs.PacketHeaders.{header-there}
use Rattle.protection.specs.KeyRecord.{keys_of}
use Rattle.protection.specs.AesGcm.{aes_gcm}
use Rattle.packets.specs.Packet.{of_keys}
use Rattle.packets.proofs.Opening.{open-expected, open-version, open-form, open-header, open-room}
use Rattle.open_judging.proofs.Judging.{finds-refused, placed, covered, within, found}
use Rattle.open_judging.proofs.find.Goals as goal

pub returns-then-expected-gt-NUMBERS : goal.returns-then-expected-gt-NUMBERS
returns-then-expected-gt-NUMBERS c = open-expected aes_gcm in_force _ _ _ _ (omega arith)

pub returns-then-not-is_known : goal.returns-then-not-is_known
returns-then-not-is_known c = open-version aes_gcm in_force _ _ _ _ (omega arith) (sym c.is_known.ensures ∙ c.if-not-is_known.true)

pub returns-in_err-judge_form : goal.returns-in_err-judge_form
returns-in_err-judge_form c =
    let ours = sym c.is_known.ensures ∙ c.if-not-is_known.false in
    finds-refused _ _ _ _ _ _ c.from_residual.ensures.1 (open-form aes_gcm in_force _ _ _ _ (omega arith) ours c.in_err-judge_form.ensures)

pub returns-in_err-header : goal.returns-in_err-header
returns-in_err-header c =
    let a = c.args in
    let ours = sym c.is_known.ensures ∙ c.if-not-is_known.false in
    let long = c.in_ok-judge_form.ensures in
    finds-refused _ _ _ _ _ _ c.from_residual-in_err-header.ensures.1
    (open-header aes_gcm in_force (keys_of a.keys) a.expected a.datagram.now a.room (omega arith) ours long c.in_err-header.ensures)

pub overflow_add-place : goal.overflow_add-place
overflow_add-place c =
    let a = c.args in
    let long = c.in_ok-judge_form.ensures in
    let read = c.in_ok-header.ensures in
    let there = header-there (of_keys (keys_of a.keys)) a.datagram.now read in
    omega (arith, there.all, formed-fits in_force long_form a.datagram.now long)

pub overflow_sub-place : goal.overflow_sub-place
overflow_sub-place c =
    let a = c.args in
    let read = c.in_ok-header.ensures in
    let there = header-there (of_keys (keys_of a.keys)) a.datagram.now read in
    omega arith

pub returns-then-room-place : goal.returns-then-room-place
returns-then-room-place c =
    let a = c.args in
    let ours = sym c.is_known.ensures ∙ c.if-not-is_known.false in
    let long = c.in_ok-judge_form.ensures in
    let read = c.in_ok-header.ensures in
    open-room aes_gcm in_force (keys_of a.keys) a.expected a.datagram.now a.room (omega arith) ours long read (omega arith)

pub reveal-requires : goal.reveal-requires
reveal-requires c =
    let a = c.args in
    let ours = sym c.is_known.ensures ∙ c.if-not-is_known.false in
    let long = c.in_ok-judge_form.ensures in
    let read = c.in_ok-header.ensures in
    placed (keys_of a.keys) a.expected a.datagram.now a.room (omega arith) ours long read

pub returns-in_err-packet : goal.returns-in_err-packet
returns-in_err-packet c =
    let a = c.args in
    let ours = sym c.is_known.ensures ∙ c.if-not-is_known.false in
    let long = c.in_ok-judge_form.ensures in
    let read = c.in_ok-header.ensures in
    covered (keys_of a.keys) a.expected a.datagram.now a.room (omega arith) ours long read (omega arith) _ _ c.from_residual-in_err-packet.ensures.1 c.in_err-packet.ensures

pub invariant_of-result : goal.invariant_of-result
invariant_of-result c =
    let a = c.args in
    let ours = sym c.is_known.ensures ∙ c.if-not-is_known.false in
    let long = c.in_ok-judge_form.ensures in
    let read = c.in_ok-header.ensures in
    record { within = within (keys_of a.keys) a.expected a.datagram.now a.room (omega arith) ours long read (omega arith) _ c.in_ok-packet.ensures }

pub returns : goal.returns
returns c =
    let a = c.args in
    let ours = sym c.is_known.ensures ∙ c.if-not-is_known.false in
    let long = c.in_ok-judge_form.ensures in
    let read = c.in_ok-header.ensures in
    (refl, found (keys_of a.keys) a.expected a.datagram.now a.room (omega arith) ours long read (omega arith) _ c.in_ok-packet.ensures)
