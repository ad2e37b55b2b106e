-- What is left to lay over the buffer as it is gives what all of it gave at the start.
use Rattle.std.proofs.Common.{◌≡◌, ◌+◌, ◌*◌, ◌++◌, length, drop}
use Rattle.std.specs.Iterator.Adapters.{enumerate_source, enumerate_count}
use Rattle.std.specs.Slice.Iter.{chunks_rest, chunks_size}
use Rattle.octets.specs.Octets.{bytes, laid}
use Rattle.gcm_counter.specs.Counter.{gctr, stream_by}
use Rattle.gcm_counter.proofs.crypt.Given as goal

abbrev pub invariant-loop-k : goal.invariant-loop-k
invariant-loop-k l =
    let left = chunks_rest (enumerate_source l.k-iterator) in
    let done = 32 * enumerate_count l.k-iterator in
    (chunks_size (enumerate_source l.k-iterator) ≡ 32)
    × (left ≡ drop done l.source)
    × (length l.buffer ≡ length l.initial.buffer)
    × (laid l.buffer (l.at + done) (gctr l.schedule (l.nonce ++ bytes 4 l.count) left) ≡ laid l.initial.buffer l.at (stream_by l.schedule l.nonce l.source))
