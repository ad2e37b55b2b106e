-- The tag is compared; then the packet is written and the expected number moves.
use Rattle.protection.specs.KeyRecord.{keys_of}
use Rattle.open_decrypting.proofs.Answers.{tag-refused, decrypts}
use Rattle.open_decrypting.proofs.decrypt.Goals as goal

pub returns-then-not-tag_matches : goal.returns-then-not-tag_matches
returns-then-not-tag_matches c =
    let a = c.args in
    tag-refused (keys_of a.keys) a.found.datagram.now a.expected.now a.out.now a.found.packet _ _ c.expand_key-schedule.ensures c.nonce_of-nonce.ensures _
    c.tag_matches.ensures c.if-not-tag_matches.true

pub returns : goal.returns
returns c =
    let a = c.args in
    decrypts (keys_of a.keys) a.found.datagram.now a.expected.now a.out.now a.found.packet _ _ c.expand_key-schedule.ensures c.nonce_of-nonce.ensures _
    c.tag_matches.ensures c.if-not-tag_matches.false _ c.expected_after.ensures _ _ c.write_opened-opened.ensures
