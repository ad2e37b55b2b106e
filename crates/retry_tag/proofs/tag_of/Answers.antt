-- The pseudo-packet in three pieces, under the version's key and nonce.
use Rattle.retry_tag.proofs.Tags.{tag-made}
use Rattle.retry_tag.proofs.tag_of.Goals as goal

pub returns : goal.returns
returns c =
    let a = c.args in
    tag-made a.number a.original.now a.packet.now
    c.retry_key-key.ensures
    c.retry_nonce-nonce.ensures
    c.expand_key-schedule.ensures
    c.hash_key-hash_key.ensures
    c.make_tag.ensures
