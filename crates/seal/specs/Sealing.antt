-- What sealing promises: its answer, and the lent buffer afterwards.
use Rattle.std.specs.Prelude.{ℕ, ◌≡◌, List, length, Result}
use Rattle.octets.specs.Octets.{placed, length_given}
use Rattle.octets.specs.declared.refusal.Refusal.{Refusal}
use Rattle.numbers_shortening.specs.Shortening.{Acknowledged}
use Rattle.header_forms.specs.Rules.{in_force}
use Rattle.header_writing.specs.Written.{Plain}
use Rattle.protection.specs.Protection.{Keys}
use Rattle.packets.specs.Packet.{sealed}
use Rattle.protection.specs.AesGcm.{aes_gcm}
use Rattle.seal_judging.specs.Judging.{sealing_answer}

pub record Seal (k : Keys) (a : Acknowledged) (p : Plain) (before : List ℕ) (r : Result ℕ Refusal) (after : List ℕ) : Type 0 where
  pub answer : sealing_answer r ≡ length_given (sealed aes_gcm in_force k a p (length before))
  pub output : after ≡ placed (sealed aes_gcm in_force k a p (length before)) before
