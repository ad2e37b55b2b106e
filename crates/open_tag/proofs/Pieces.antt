-- The tag over a packet's pieces.
use Prim.Native.Nat.{ℕ, ◌+◌, ◌-◌}
use mathlib.Core.Path.{◌≡◌, ◌∙◌}
use mathlib.Core.Bool.{Bool}
use mathlib.Core.List.{List, ◌∷◌, ◌++◌}
use native.Mathlib.Omega.{arith}
use lib.ListN.{take}
use Rattle.octets.specs.Octets.{bytes, part, laid, same}
use Rattle.octets.proofs.Numbers.{bytes-length}
use Rattle.octets.proofs.Buffers.{front-laid}
use Rattle.gcm.specs.Gcm.{tag_by, hash_key}
use Rattle.open_unmasking.specs.Parts.{Within, tag_of}
use Rattle.open_unmasking.specs.declared.Packet.{Packet}
use Rattle.open_unmasking.proofs.Parts.{cipher-is}
use Rattle.open_tag.specs.Matching.{Matches}

module _ (d : List ℕ) (p : Packet) (w : Within d p) where
  tag_is : part d (p.place + p.length - 16) (p.place + p.length - (p.place + p.length - 16)) ≡ tag_of d p
  tag_is =
      let counted : p.place + p.length - (p.place + p.length - 16) ≡ 16 = omega arith in
      rw counted

  pub matches : (schedule nonce : List ℕ) (key : ℕ) (buffer short right : List ℕ) (r : Bool) → key ≡ hash_key schedule
      → short ≡ laid buffer 0 (bytes p.count p.truncated.0)
      → right
      ≡ tag_by schedule key nonce (p.first ∷ part d 1 (p.place - 1) ++ take p.count short)
      (part d (p.place + p.count) (p.place + p.length - 16 - (p.place + p.count)))
      → r ≡ same (part d (p.place + p.length - 16) (p.place + p.length - (p.place + p.length - 16))) right
      → Matches schedule nonce d p r
  matches schedule nonce key buffer short right r its-key its-number its-tag is =
      let short : List ℕ = bytes p.count p.truncated.0 in
      is
      ∙ rw (its-tag, its-key, its-number, front-laid buffer short p.count (bytes-length p.count p.truncated.0), cipher-is d p, tag_is)
