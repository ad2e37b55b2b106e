-- The tag of the pieces is the tag of the plain header and the ciphertext.
use lib.ListN.{replicate}
use Rattle.gcm_field.specs.Field.{num}
use Rattle.open_tag.proofs.Pieces.{matches}
use Rattle.open_tag.proofs.tag_matches.Goals as goal

pub returns : goal.returns
returns c =
    let a = c.args in
    matches a.found.datagram.now a.found.packet a.found.within a.schedule.now a.nonce.now (num c.hash_key-key.result) (replicate 4 0) c.store.new.buffer c.make_tag-tag.result _
    c.hash_key-key.ensures c.store.ensures c.make_tag-tag.ensures c.same_tag.ensures
