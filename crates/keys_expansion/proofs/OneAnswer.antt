-- A contract on the keys that a record stands for permits one record only.
use mathlib.Core.Path.{◌≡◌, refl}
use Rattle.octets.proofs.Outcome.{once}
use Rattle.protection.specs.Protection.{Keys}
use Rattle.protection.specs.KeyRecord.{keys_of}
use Rattle.protection.specs.declared.Keys as Code

-- the code's record of keys
abbrev pub keys_back : Keys → Code.Keys
keys_back k = record { version = k.version; level = k.level; key = k.key; iv = k.iv; hp = k.hp }

pub keys-back : (r : Code.Keys) → keys_back (keys_of r) ≡ r
keys-back r = refl

pub keys-once : {r r' : Code.Keys} {k : Keys} → keys_of r ≡ k → keys_of r' ≡ k → r ≡ r'
keys-once s t = once keys_of keys_back keys-back s t
