-- First byte, middle, number and payload, each behind the other.
use Rattle.open_writing.proofs.Pieces.{writes}
use Rattle.open_writing.proofs.write_opened.Goals as goal

pub returns : goal.returns
returns c =
    let a = c.args in
    writes a.found.datagram.now a.found.packet a.found.within a.schedule.now a.nonce.now a.buffer.now _ _ _ _
    c.put.ensures c.copy.ensures c.store.ensures c.crypt.ensures
