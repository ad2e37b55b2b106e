-- A key record in 49 bytes: its version in four, its level in one, then key, iv and hp. Any 49 bytes are one.
use Rattle.std.specs.Prelude.{ℕ, List, [], ◌∷◌, ◌++◌, get_or}
use Rattle.octets.specs.Octets.{bytes, number, part}
use Rattle.protection.specs.Protection.{Keys}

unfoldable pub key_bytes : Keys → List ℕ
key_bytes k = bytes 4 k.version ++ (k.level ∷ []) ++ k.key ++ k.iv ++ k.hp

unfoldable pub keys_in : List ℕ → Keys
keys_in s = record { version = number (part s 0 4); level = get_or s 4 0; key = part s 5 16; iv = part s 21 12; hp = part s 33 16 }
