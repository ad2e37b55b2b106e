-- Writing what was opened has one answer, and leaves one buffer.
use Prim.Native.Nat.{ℕ, ◌+◌}
use mathlib.Core.Path.{◌≡◌, sym, ◌∙◌}
use mathlib.Core.List.{List}
use lib.ListN.{length}
use Rattle.open_unmasking.specs.Parts.{plain_of, cipher_of}
use Rattle.open_unmasking.specs.declared.Packet.{Packet}
use Rattle.open_writing.specs.Written.{Writes}
use Rattle.open_writing.specs.declared.Opened as Code

module _ {schedule nonce d : List ℕ} {p : Packet} {before : List ℕ} where
  -- all of it, by the packet
  is : {then : List ℕ} (r : Code.Opened) → Writes schedule nonce d p before then r → r ≡ record {
    number = p.number;
    number_length = p.count;
    header_length = length (plain_of d p);
    payload_length = length (cipher_of d p);
    used = p.place + p.length;
  }
  is r w = rw (w.number, w.number_length, w.header_length, w.payload_length, w.bytes_used)

  pub write-opened-once : {then then' : List ℕ} {r r' : Code.Opened} → Writes schedule nonce d p before then r → Writes schedule nonce d p before then' r'
      → (r ≡ r') × (then ≡ then')
  write-opened-once {r = r} {r' = r'} w w' = (is r w ∙ sym (is r' w'), w.written ∙ sym w'.written)
