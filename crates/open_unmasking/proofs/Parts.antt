-- The ciphertext, from where the number ends to where the tag starts.
use Prim.Native.Nat.{ℕ, ◌+◌, ◌-◌}
use mathlib.Core.Path.{◌≡◌}
use mathlib.Core.List.{List}
use native.Mathlib.Omega.{arith}
use Rattle.octets.specs.Octets.{part}
use Rattle.open_unmasking.specs.Parts.{cipher_of}
use Rattle.open_unmasking.specs.declared.Packet.{Packet}

pub cipher-is : (d : List ℕ) (p : Packet)
    → part d (p.place + p.count) (p.place + p.length - 16 - (p.place + p.count)) ≡ cipher_of d p
cipher-is d p =
    let counted : p.place + p.length - 16 - (p.place + p.count) ≡ p.length - p.count - 16 = omega arith in
    rw counted
