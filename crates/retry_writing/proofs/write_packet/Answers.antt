-- The long header, the token and the tag, each where the one before it ends.
use Prim.Native.Nat.{◌+◌}
use native.Mathlib.Omega.{arith}
use lib.ListN.{length}
use Rattle.header_writing.proofs.Forms.{long-length}
use Rattle.versions.proofs.Versions.{retry-fits}
use Rattle.octets.proofs.Parts.{front-short}
use Rattle.retry_writing.proofs.Packets.{token-laid, tag-laid}
use Rattle.retry_writing.proofs.write_packet.Goals as goal

pub overflow_mul-first : goal.overflow_mul-first
overflow_mul-first c = omega (arith, c.retry_type.ensures, retry-fits c.args.retry.version)

pub overflow_add-first : goal.overflow_add-first
overflow_add-first c = omega (arith, c.retry_type.ensures, retry-fits c.args.retry.version)

pub overflow_add-first-2 : goal.overflow_add-first-2
overflow_add-first-2 c = omega (arith, c.retry_type.ensures, retry-fits c.args.retry.version)

pub copy-requires : goal.copy-requires
copy-requires c =
    let size = long-length c.args.retry.version c.args.retry.destination.now c.args.retry.source.now in
    omega (arith, c.write_long-token_at.ensures.ends, c.write_long-token_at.auto)

pub tag_of-tag-requires : goal.tag_of-tag-requires
tag_of-tag-requires c =
    let size = long-length c.args.retry.version c.args.retry.destination.now c.args.retry.source.now in
    (c.requires.short-original, front-short (c.write_long-token_at.result + length c.args.retry.token.now) _ (omega (arith, c.write_long-token_at.ensures.ends, c.write_long-token_at.auto)))

pub copy-requires-2 : goal.copy-requires-2
copy-requires-2 c =
    let size = long-length c.args.retry.version c.args.retry.destination.now c.args.retry.source.now in
    omega (arith, c.write_long-token_at.ensures.ends, c.write_long-token_at.auto, c.copy.auto)

pub returns : goal.returns
returns c =
    let a = c.args.retry in
    let token = token-laid a.version _ a.destination.now a.source.now a.token.now a.low_bits c.args.buffer.now _ _ _ c.retry_type.ensures c.write_long-token_at.ensures c.copy.ensures in
    tag-laid a.version a.original.now _ _ _ _ _ _ token c.tag_of-tag.ensures c.copy-2.ensures
