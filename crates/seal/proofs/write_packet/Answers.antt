-- The plain header, and then the packet protected behind it and over it.
use Rattle.header_writing.specs.Answers.{plain_of}
use Rattle.seal.proofs.Places.{room}
use Rattle.seal.proofs.write_packet.Goals as goal

pub protect_packet-requires : goal.protect_packet-requires
protect_packet-requires c =
    let a = c.args in
    room a.keys.version a.keys.level (plain_of a.plain) a.buffer.now _ _ c.requires c.write_header-place.auto.buffer c.write_header-place.ensures.stands
