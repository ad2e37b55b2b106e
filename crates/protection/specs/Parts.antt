-- What opening finds in a datagram d whose packet has its number at a place and len bytes from there on.
use Rattle.std.specs.Prelude.{ℕ, ◌+◌, ◌-◌, ◌%◌, ◌≡◌, List, ◌∷◌, ◌++◌, get_or}
use Rattle.octets.specs.Octets.{part}
use Rattle.header_forms.specs.Forms.{Form}
use Rattle.header_fields.specs.Fields.{tag_length}
use Rattle.protection.specs.Suite.{Suite}
use Rattle.protection.specs.Protection.{Keys, on_first, on_number, sample_of}

-- section 5.4.1, undone: the mask, the first byte under it, the number's length that this byte tells, and the number's bytes
pub record Unmasked (suite : Suite) (form : Form) (k : Keys) (d : List ℕ) (at : ℕ) (mask : List ℕ) (first n : ℕ) (short : List ℕ) : Type 0 where
  pub its-mask : mask ≡ suite.mask k.hp (sample_of d at)
  pub its-first : first ≡ on_first form mask (get_or d 0 0)
  pub its-length : n ≡ first % 4 + 1
  pub its-number : short ≡ on_number mask (part d at n)

-- section 5.3: the associated data, the ciphertext behind a number of n bytes, and the tag
abbrev pub plain_in : (d : List ℕ) (at first : ℕ) (short : List ℕ) → List ℕ
plain_in d at first short = first ∷ part d 1 (at - 1) ++ short

abbrev pub cipher_in : (d : List ℕ) (at len n : ℕ) → List ℕ
cipher_in d at len n = part d (at + n) (len - n - tag_length)

abbrev pub tag_in : (d : List ℕ) (at len : ℕ) → List ℕ
tag_in d at len = part d (at + len - tag_length) tag_length
