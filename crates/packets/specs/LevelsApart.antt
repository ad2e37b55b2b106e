-- RFC 9001 section 5: each level has keys of its own, and no packet is taken for one of another level.
use Rattle.std.specs.Prelude.{ℕ, ◌≤◌, ◌≡◌, List, ◌++◌, length}
use Rattle.octets.specs.Outcome.{refused, given}
use Rattle.numbers.specs.Numbers.{numbers}
use Rattle.numbers_shortening.specs.Shortening.{Acknowledged}
use Rattle.header_forms.specs.Rules.{Rules}
use Rattle.header_writing.specs.Written.{Plain}
use Rattle.protection.specs.Suite.{Suite}
use Rattle.protection.specs.Protection.{Keys}
use Rattle.packets.specs.Packet.{sealed, opened}

-- what one sender's keys sealed, keys of that version and another level refuse with 6, whatever their bytes and whatever stands behind
pub record Apart (suite : Suite) (rules : Rules) (k : Keys) (packet : List ℕ) : Type 0 where
  pub refuses : (other : Keys) → other.version ≡ k.version → (k.level ≡ other.level → ⊥)
      → (behind : List ℕ) → length (packet ++ behind) ≤ rules.limit → (e room : ℕ) → e ≤ numbers
      → opened suite rules other e (packet ++ behind) room ≡ refused 6

abbrev pub LevelsApart : Suite → Rules → Type 0
LevelsApart suite rules =
    (k : Keys) (a : Acknowledged) (p : Plain) (room : ℕ) (packet : List ℕ) → sealed suite rules k a p room ≡ given packet → Apart suite rules k packet
