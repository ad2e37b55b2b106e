-- What C is promised of opening: RFC 9001 section 5.
use Rattle.std.specs.Prelude.{ℕ, ◌≡◌, List, [], ◌∷◌, length}
use Rattle.octets.specs.Octets.{placed}
use Rattle.header_forms.specs.Rules.{in_force}
use Rattle.protection.specs.Clear.{Opened}
use Rattle.packets.specs.Packet.{opened}
use Rattle.packets.specs.Effects.{output, after}
use Rattle.protection.specs.AesGcm.{aes_gcm}
use Rattle.open_decrypting.specs.Decrypting.{Report}
use Rattle.c_forms.specs.Promises.{Answers}
use Rattle.c_key_record.specs.Layout.{keys_in}

-- number, its length, header length, payload length, bytes used
abbrev pub opened_numbers : Opened → List ℕ
opened_numbers o = o.packet_number ∷ o.number_length ∷ length o.plain ∷ length o.payload ∷ o.used ∷ []

-- the same of what the code answers, which has the lengths
abbrev pub report_numbers : Report → List ℕ
report_numbers o = o.full_number ∷ o.number_length ∷ o.header_length ∷ o.payload_length ∷ o.bytes_used ∷ []

pub record DwOpen (keys datagram : List ℕ) (expected next : ℕ) (before : List ℕ) (r : ℕ) (report : List ℕ) (buffer then : List ℕ) : Type 0 where
  pub answers : Answers (opened aes_gcm in_force (keys_in keys) expected datagram (length buffer)) opened_numbers before r report
  pub moved : next ≡ after expected (opened aes_gcm in_force (keys_in keys) expected datagram (length buffer))
  pub written : then ≡ placed (output (opened aes_gcm in_force (keys_in keys) expected datagram (length buffer))) buffer
