-- What opening promises: its answer, the number expected then, and the lent buffer afterwards.
use Rattle.std.specs.Prelude.{ℕ, ◌≡◌, List, length, Result}
use Rattle.octets.specs.Octets.{placed}
use Rattle.octets.specs.declared.refusal.Refusal.{Refusal}
use Rattle.header_forms.specs.Rules.{in_force}
use Rattle.protection.specs.Protection.{Keys}
use Rattle.protection.specs.AesGcm.{aes_gcm}
use Rattle.packets.specs.Packet.{opened}
use Rattle.packets.specs.Effects.{output, after}
use Rattle.open_decrypting.specs.Decrypting.{opening_answer, reported}
use Rattle.open_writing.specs.declared.Opened.{Opened}

pub record Open (k : Keys) (d : List ℕ) (expected next : ℕ) (before then : List ℕ) (r : Result Opened Refusal) : Type 0 where
  pub answer : opening_answer r ≡ reported (opened aes_gcm in_force k expected d (length before))
  pub number : next ≡ after expected (opened aes_gcm in_force k expected d (length before))
  pub buffer : then ≡ placed (output (opened aes_gcm in_force k expected d (length before))) before
