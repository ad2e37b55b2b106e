-- RFC 9001 sections 5.3 and 5.4: the nonce, and the mask over the header.
use Rattle.std.specs.Prelude.{ℕ, ◌+◌, List, [], ◌∷◌, get_or, drop}
use Rattle.octets.specs.Octets.{bytes, part, xor, laid}
use Rattle.header_forms.specs.Forms.{Form, masked_first}

-- one sender's keys, of one version and level
pub record Keys : Type 0 where
  pub version : ℕ
  pub level : ℕ
  pub key : List ℕ
  pub iv : List ℕ
  pub hp : List ℕ

-- section 5.3: the iv combined with the full number, left-padded with zeros to its twelve bytes
unfoldable pub nonce : (iv : List ℕ) (m : ℕ) → List ℕ
nonce iv m = xor iv (bytes 12 m)

-- section 5.4.1: the mask's first byte on the low bits of the first byte, as many as the form masks, and its next bytes on the number
unfoldable pub on_first : Form → (mask : List ℕ) (first : ℕ) → ℕ
on_first form mask first = masked_first form (get_or mask 0 0) first

unfoldable pub on_number : (mask short : List ℕ) → List ℕ
on_number mask short = xor short (drop 1 mask)

-- section 5.4.2: the sample starts four bytes after the number's first byte, as if the number had four
unfoldable pub sample_of : (packet : List ℕ) (number_at : ℕ) → List ℕ
sample_of packet number_at = part packet (number_at + 4) 16

-- the mask laid over a packet whose number stands in n bytes at a place
unfoldable pub masked : Form → (mask : List ℕ) (number_at n : ℕ) (packet : List ℕ) → List ℕ
masked form mask number_at n packet =
    laid (laid packet 0 (on_first form mask (get_or packet 0 0) ∷ [])) number_at (on_number mask (part packet number_at n))
