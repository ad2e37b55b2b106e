-- What comparing a packet's tag promises.
use Rattle.std.specs.Prelude.{ℕ, ◌≡◌, Bool, List}
use Rattle.octets.specs.Octets.{same}
use Rattle.gcm.specs.Gcm.{tag_by, hash_key}
use Rattle.open_unmasking.specs.Parts.{plain_of, cipher_of, tag_of}
use Rattle.open_unmasking.specs.declared.Packet.{Packet}

-- under a key's schedule: the tag is right
abbrev pub Matches : (schedule nonce d : List ℕ) → Packet → Bool → Type 0
Matches schedule nonce d p r = r ≡ same (tag_of d p) (tag_by schedule (hash_key schedule) nonce (plain_of d p) (cipher_of d p))
