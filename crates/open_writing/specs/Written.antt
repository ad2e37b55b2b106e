-- What writing an opened packet promises.
use Rattle.std.specs.Prelude.{ℕ, ◌+◌, ◌≡◌, List, ◌++◌, length}
use Rattle.octets.specs.Octets.{begun}
use Rattle.gcm_counter.specs.Counter.{stream_by}
use Rattle.open_unmasking.specs.Parts.{plain_of, cipher_of}
use Rattle.open_unmasking.specs.declared.Packet.{Packet}
use Rattle.open_writing.specs.declared.Opened as Code

-- under a key's schedule: plain header and payload at a buffer's start, and their lengths
pub record Writes (schedule nonce d : List ℕ) (p : Packet) (before then : List ℕ) (r : Code.Opened) : Type 0 where
  pub written : then ≡ begun (plain_of d p ++ stream_by schedule nonce (cipher_of d p)) before
  pub number : r.number ≡ p.number
  pub number_length : r.number_length ≡ p.count
  pub header_length : r.header_length ≡ length (plain_of d p)
  pub payload_length : r.payload_length ≡ length (cipher_of d p)
  pub bytes_used : r.used ≡ p.place + p.length
