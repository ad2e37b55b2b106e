-- What taking the mask off promises.
use Rattle.std.specs.Prelude.{ℕ, ◌<◌, ◌≡◌, List, length}
use Rattle.octets.specs.Octets.{bytes}
use Rattle.numbers.specs.Numbers.{window}
use Rattle.header_forms.specs.Forms.{Form}
use Rattle.protection.specs.Protection.{Keys}
use Rattle.protection.specs.Clear.{mask_of}
use Rattle.protection.specs.Parts.{Unmasked}
use Rattle.protection.specs.AesGcm.{aes_gcm}
use Rattle.open_unmasking.specs.declared.Bare.{Bare}

-- bytes and the number that they spell, each by the other
pub record Spells (short : List ℕ) (t : ℕ) : Type 0 where
  pub small : t < window (length short)
  pub spelled : short ≡ bytes (length short) t

-- section 5.4.1, undone: the first byte, and the short number by its bytes
pub record Unmasks (form : Form) (k : Keys) (d : List ℕ) (place : ℕ) (b : Bare) : Type 0 where
  pub small : b.truncated.0 < window b.count
  pub bare : Unmasked aes_gcm form k d place (mask_of aes_gcm k.hp d place) b.first b.count (bytes b.count b.truncated.0)
