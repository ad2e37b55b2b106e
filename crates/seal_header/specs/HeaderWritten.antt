-- What writing the plain header promises.
use Rattle.std.specs.Prelude.{ℕ, ◌≡◌, List}
use Rattle.octets.specs.Octets.{begun}
use Rattle.header_forms.specs.Rules.{in_force}
use Rattle.header_writing.specs.Written.{Plain}
use Rattle.protection.specs.Clear.{number_at, plain_header}
use Rattle.packets.specs.Packet.{clear_of}

-- the plain header at a buffer's start, and where its number stands
pub record HeaderWritten (v level : ℕ) (p : Plain) (before after : List ℕ) (place : ℕ) : Type 0 where
  pub holds : after ≡ begun (plain_header (clear_of in_force v level p)) before
  pub stands : place ≡ number_at (clear_of in_force v level p)
