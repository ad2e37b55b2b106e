-- The code's key record as the keys it stands for.
use Rattle.protection.specs.Protection.{Keys}
use Rattle.protection.specs.declared.Keys as Code

abbrev pub keys_of : Code.Keys → Keys
keys_of k = record { version = k.version; level = k.level; key = k.key; iv = k.iv; hp = k.hp }
