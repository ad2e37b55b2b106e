-- Each refusal is one law, and what is left is the size.
use mathlib.Core.Path.{sym, ap, ◌∙◌}
use native.Mathlib.Omega.{arith}
use Rattle.octets.specs.Octets.{length_given}
use Rattle.octets.proofs.Refusals.{passed-on}
use Rattle.numbers_shortening.specs.Answers.{acknowledged_of}
use Rattle.header_forms.specs.Rules.{in_force}
use Rattle.protection.specs.AesGcm.{aes_gcm}
use Rattle.packets.proofs.Sealing.{seal-version, seal-level, seal-number, seal-destination, seal-source, seal-short, shortening}
use Rattle.seal_judging.proofs.Sizes.{size-left}
use Rattle.seal_judging.proofs.judge.Goals as goal

pub returns-then-not-is_known : goal.returns-then-not-is_known
returns-then-not-is_known c = ap length_given (sym (seal-version aes_gcm in_force _ _ _ _ (sym c.is_known.ensures ∙ c.if-not-is_known.true)))

pub returns-then-not-is_written_by : goal.returns-then-not-is_written_by
returns-then-not-is_written_by c =
    let ours = sym c.is_known.ensures ∙ c.if-not-is_known.false in
    let other = sym c.is_written_by.ensures ∙ c.if-not-is_written_by.true in
    ap length_given (sym (seal-level aes_gcm in_force _ _ _ _ ours other))

pub returns-in_err-shorten : goal.returns-in_err-shorten
returns-in_err-shorten c =
    let ours = sym c.is_known.ensures ∙ c.if-not-is_known.false in
    let suits = sym c.is_written_by.ensures ∙ c.if-not-is_written_by.false in
    let why = c.in_err-shorten.ensures.answer in
    passed-on _ _ _ c.from_residual.ensures.1 ∙ ap length_given (sym (seal-number aes_gcm in_force _ _ _ _ ours suits why))

pub returns-then-plain-gt-LONGEST_ID : goal.returns-then-plain-gt-LONGEST_ID
returns-then-plain-gt-LONGEST_ID c =
    let ours = sym c.is_known.ensures ∙ c.if-not-is_known.false in
    let suits = sym c.is_written_by.ensures ∙ c.if-not-is_written_by.false in
    let short = c.in_ok-shorten.ensures.answer in
    ap length_given (sym (seal-destination aes_gcm in_force _ _ _ _ ours suits short c.if-plain-gt-LONGEST_ID.true))

pub returns-then-plain-gt-LONGEST_ID-2 : goal.returns-then-plain-gt-LONGEST_ID-2
returns-then-plain-gt-LONGEST_ID-2 c =
    let ours = sym c.is_known.ensures ∙ c.if-not-is_known.false in
    let suits = sym c.is_written_by.ensures ∙ c.if-not-is_written_by.false in
    let short = c.in_ok-shorten.ensures.answer in
    ap length_given (sym (seal-source aes_gcm in_force _ _ _ _ ours suits short c.if-plain-gt-LONGEST_ID.false c.if-plain-gt-LONGEST_ID-2.true))

pub overflow_add-count : goal.overflow_add-count
overflow_add-count c =
    let a = c.args in
    let short = c.in_ok-shorten.ensures.answer in
    let few = shortening a.plain.number.0 (acknowledged_of a.acknowledged) a.plain.number_length _ (sym short) in
    omega (arith, c.well_formed)

pub returns-then-count-plain-lt4 : goal.returns-then-count-plain-lt4
returns-then-count-plain-lt4 c =
    let ours = sym c.is_known.ensures ∙ c.if-not-is_known.false in
    let suits = sym c.is_written_by.ensures ∙ c.if-not-is_written_by.false in
    let short = c.in_ok-shorten.ensures.answer in
    ap length_given (sym (seal-short aes_gcm in_force _ _ _ _ ours suits short c.if-plain-gt-LONGEST_ID.false c.if-plain-gt-LONGEST_ID-2.false (omega arith)))

pub judge_size-requires : goal.judge_size-requires
judge_size-requires c =
    let a = c.args in
    let short = c.in_ok-shorten.ensures.answer in
    let few = shortening a.plain.number.0 (acknowledged_of a.acknowledged) a.plain.number_length _ (sym short) in
    (few.short, c.if-plain-gt-LONGEST_ID.false, c.if-plain-gt-LONGEST_ID-2.false)

pub returns : goal.returns
returns c =
    let ours = sym c.is_known.ensures ∙ c.if-not-is_known.false in
    let suits = sym c.is_written_by.ensures ∙ c.if-not-is_written_by.false in
    let short = c.in_ok-shorten.ensures.answer in
    c.judge_size.ensures
    ∙ size-left _ _ _ _ ours suits short c.if-plain-gt-LONGEST_ID.false c.if-plain-gt-LONGEST_ID-2.false c.if-count-plain-lt4.false
