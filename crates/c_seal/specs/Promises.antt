-- What C is promised of sealing: RFC 9001 section 5.
use Rattle.std.specs.Prelude.{ℕ, List, [], ◌∷◌, length}
use Rattle.header_forms.specs.Rules.{in_force}
use Rattle.header_writing.specs.Written.{Plain}
use Rattle.packets.specs.Packet.{sealed}
use Rattle.protection.specs.AesGcm.{aes_gcm}
use Rattle.c_forms.specs.Arguments.{acknowledged_by}
use Rattle.c_forms.specs.Promises.{Writes}
use Rattle.c_key_record.specs.Layout.{keys_in}

-- the packet's length is all that is reported
abbrev pub length_alone : ℕ → List ℕ
length_alone n = n ∷ []

abbrev pub DwSeal : (keys : List ℕ) (any acknowledged : ℕ) → Plain → (before : List ℕ) (r : ℕ) (report : List ℕ) (buffer then : List ℕ) → Type 0
DwSeal keys any acknowledged p before r report buffer = Writes (sealed aes_gcm in_force (keys_in keys) (acknowledged_by any acknowledged) p (length buffer)) before r report buffer
