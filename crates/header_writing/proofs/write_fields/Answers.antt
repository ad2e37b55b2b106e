-- Each field goes on where the one before it ends.
use Prim.Native.Nat.{ℕ, ◌+◌}
use mathlib.Core.List.{List, ◌∷◌, ◌++◌}
use native.Mathlib.Omega.{arith}
use lib.ListN.{length-append}
use Rattle.octets.proofs.Buffers.{goes_on}
use Rattle.header_forms.specs.Rules.{in_force}
use Rattle.header_writing.specs.Written.{long_fields, token_bytes, packet_fields}
use Rattle.header_writing.specs.Answers.{token_of}
use Rattle.header_writing.proofs.Forms.{long-length}
use Rattle.header_writing.proofs.write_fields.Goals as goal

pub write_token-requires : goal.write_token-requires
write_token-requires c =
    let a = c.args in
    let begun = long-length a.version a.plain.destination.now a.plain.source.now in
    (c.requires.short-token, omega (arith, c.write_long-token_at.ensures.ends, c.write_long-token_at.auto, c.requires.room))

pub write_length-requires : goal.write_length-requires
write_length-requires c =
    let a = c.args in
    let begun = long-length a.version a.plain.destination.now a.plain.source.now in (
      c.requires.short-rest,
      omega (arith, c.write_long-token_at.ensures.ends, c.write_long-token_at.auto, c.token_form.ensures, c.write_token.auto, c.requires.room),
    )

pub returns : goal.returns
unfolding packet_fields
returns c =
    let a = c.args in
    let begun = long-length a.version a.plain.destination.now a.plain.source.now in
    let out = a.buffer.now in
    let token = token_bytes (token_of a.plain.token) in
    let front : List ℕ = a.first ∷ long_fields a.version a.plain.destination.now a.plain.source.now in
    let counted = in_force.length_form a.counted in
    let begins = c.write_long-token_at.ensures in
    let form = c.token_form.ensures in
    let to-length = length-append front token in
    let all = length-append (front ++ token) counted in
    let length_at : ℕ = c.write_long-token_at.result + c.token_form.result in
    let one = goes_on front token out _ _ _ begins.holds c.write_token.ensures begins.ends in
    record {
      holds = goes_on (front ++ token) counted out _ _ length_at one c.write_length.ensures (omega arith);
      ends = omega (arith, c.length_form.ensures);
    }
