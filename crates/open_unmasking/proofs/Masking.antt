-- The mask taken from the first byte and the number, and what the number's bytes spell.
use Prim.Native.Nat.{ℕ, ◌+◌, ◌%◌, ◌≤◌}
use mathlib.Core.Path.{◌≡◌, sym, ap, ◌∙◌}
use mathlib.Core.List.{List}
use lib.ListN.{length, get_or, take, drop}
use Rattle.octets.specs.Octets.{Bytes, bytes, number, part, xor, laid}
use Rattle.octets.proofs.Parts.{part_length}
use Rattle.octets.proofs.Numbers.{number-below, bytes_back}
use Rattle.octets.proofs.Xor.{xor-length}
use Rattle.octets.proofs.Buffers.{front-laid}
use Rattle.header_forms.specs.Forms.{Form}
use Rattle.protection.specs.Protection.{Keys, on_first, on_number}
use Rattle.protection.specs.Clear.{mask_of}
use Rattle.protection.specs.Parts.{Unmasked}
use Rattle.protection.specs.AesGcm.{aes_gcm}
use Rattle.protection.proofs.Parts.{mask-rest}
use Rattle.protection.proofs.Unprotecting.{number-length}
use Rattle.open_unmasking.specs.Unmasking.{Spells, Unmasks}
use Rattle.open_unmasking.specs.declared.Bare.{Bare}

-- bytes spell the number that is read of them
pub spells : (s : List ℕ) (t : ℕ) → Bytes s → t ≡ number s → Spells s t
spells s t bs is = record { small = rw is (number-below s bs); spelled = rw is (sym (bytes_back s bs)) }

-- the number's bytes without the mask, put at the start of a small buffer and taken from there
pub short-taken : (d mask buffer : List ℕ) (place len count : ℕ) → length mask ≡ 16 → len ≡ count → place + count ≤ length d
    → take count (laid buffer 0 (xor (part d place len) (take 15 (drop 1 mask)))) ≡ on_number mask (part d place count)
unfolding on_number
short-taken d mask buffer place len count sixteen is inside =
    let short : List ℕ = xor (part d place count) (drop 1 mask) in
    let counted : length short ≡ count = xor-length (part d place count) (drop 1 mask) ∙ part_length d place count inside in
    rw (is, mask-rest mask sixteen) (front-laid buffer short count counted)

-- what they spell is the short number
pub unmasks : (form : Form) (k : Keys) (d mask short : List ℕ) (place : ℕ) (b : Bare) → place + b.count ≤ length d
    → mask ≡ mask_of aes_gcm k.hp d place
    → b.first ≡ on_first form mask (get_or d 0 0)
    → b.count ≡ b.first % 4 + 1
    → short ≡ on_number mask (part d place b.count)
    → Spells short b.truncated.0
    → Unmasks form k d place b
unmasks form k d mask short place b inside its-mask its-first its-length its-number s =
    let counted = number-length under inside in
    record { small = rw (← counted) s.small; bare = rw (← its-mask, sym (s.spelled ∙ ap (λ (n : ℕ). bytes n b.truncated.0) counted)) under }
  where
    under : Unmasked aes_gcm form k d place mask b.first b.count short
    under = record { its-mask = its-mask; its-first = its-first; its-length = its-length; its-number = its-number }
