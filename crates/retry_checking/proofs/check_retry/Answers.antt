-- The long header, the token behind it, and the tag behind the token, each within the datagram.
use Prim.Native.Nat.{◌+◌}
use mathlib.Core.Path.{sym, ap₂, ◌∙◌}
use native.Mathlib.Omega.{arith}
use lib.Seq.{length-take-le}
use Rattle.octets.proofs.Parts.{front-short, to_end}
use Rattle.octets.proofs.Refusals.{passed-on}
use Rattle.octets.specs.Octets.{same}
use Rattle.retry_checking.proofs.Refusals.{header-there, token-there, check-long-original, check-no-long, check-no-token, check-other-tag, check-given}
use Rattle.retry_checking.proofs.check_retry.Goals as goal

pub returns-then-original-gt-LONGEST_ID : goal.returns-then-original-gt-LONGEST_ID
returns-then-original-gt-LONGEST_ID c = record { answer = sym (check-long-original _ _ _ c.if-original-gt-LONGEST_ID.true) }

pub returns-in_err-long : goal.returns-in_err-long
returns-in_err-long c =
    record { answer = passed-on _ _ _ c.from_residual.ensures.1 ∙ sym (check-no-long _ _ _ c.if-original-gt-LONGEST_ID.false c.in_err-long.ensures) }

pub overflow_add-long : goal.overflow_add-long
overflow_add-long c =
    let there = header-there _ _ c.in_ok-long.ensures in
    omega arith

pub token_at-requires : goal.token_at-requires
token_at-requires c = (header-there _ _ c.in_ok-long.ensures).long.source.inside

pub returns-in_err-token : goal.returns-in_err-token
returns-in_err-token c =
    record { answer = passed-on _ _ _ c.from_residual-in_err-token.ensures.1 ∙ sym (check-no-token _ _ _ c.if-original-gt-LONGEST_ID.false c.in_ok-long.ensures c.in_err-token.ensures) }

pub overflow_add-tag_at : goal.overflow_add-tag_at
overflow_add-tag_at c =
    let end = token-there _ _ c.in_ok-token.ensures in
    omega arith

pub slice_bounds-tag_of-end : goal.slice_bounds-tag_of-end
slice_bounds-tag_of-end c =
    let end = token-there _ _ c.in_ok-token.ensures in
    sym (length-take-le _ _ (omega arith))

pub tag_of-tag-requires : goal.tag_of-tag-requires
tag_of-tag-requires c =
    let there = header-there _ _ c.in_ok-long.ensures in
    let end = token-there _ _ c.in_ok-token.ensures in
    (c.if-original-gt-LONGEST_ID.false, front-short (c.in_ok-token.token.at + c.in_ok-token.token.len) _ (omega (arith, there.fits)))

pub slice_bounds-same_tag-count : goal.slice_bounds-same_tag-count
slice_bounds-same_tag-count c =
    let end = token-there _ _ c.in_ok-token.ensures in
    omega arith

pub slice_bounds-same_tag-start : goal.slice_bounds-same_tag-start
slice_bounds-same_tag-start c =
    let end = token-there _ _ c.in_ok-token.ensures in
    omega arith

pub returns-then-not-same_tag : goal.returns-then-not-same_tag
returns-then-not-same_tag c =
    record { answer = sym (check-other-tag _ _ _ c.if-original-gt-LONGEST_ID.false c.in_ok-long.ensures c.in_ok-token.ensures (sym (c.same_tag.ensures ∙ ap₂ same (to_end c.args.datagram.now (c.in_ok-token.token.at + c.in_ok-token.token.len)) c.tag_of-tag.ensures) ∙ c.if-not-same_tag.true)) }

pub returns : goal.returns
returns c =
    record { answer = sym (check-given _ _ _ c.if-original-gt-LONGEST_ID.false c.in_ok-long.ensures c.in_ok-token.ensures (sym (c.same_tag.ensures ∙ ap₂ same (to_end c.args.datagram.now (c.in_ok-token.token.at + c.in_ok-token.token.len)) c.tag_of-tag.ensures) ∙ c.if-not-same_tag.false)) }
