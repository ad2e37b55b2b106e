-- HMAC (RFC 2104) with SHA-256.
use Rattle.std.specs.Prelude.{ℕ, ◌-◌, cond, List, ◌++◌, leb, length, replicate}
use Rattle.octets.specs.Octets.{xor}
use Rattle.sha256.specs.Sha256.{hash}

-- ---- section 2
-- a key longer than a block of 64 bytes is hashed first, and the hash is the actual key
unfoldable pub actual_key : List ℕ → List ℕ
actual_key key = cond (leb (length key) 64) key (hash key)

-- a key of up to a block, with zeros appended to a block
unfoldable pub key_block : List ℕ → List ℕ
key_block key = key ++ replicate (64 - length key) 0

-- the block combined with a pad byte repeated, by exclusive or
unfoldable pub keyed : List ℕ → ℕ → List ℕ
keyed key pad = xor (key_block key) (replicate 64 pad)

abbrev pub ipad : ℕ
ipad = 0x36

abbrev pub opad : ℕ
opad = 0x5c

unfoldable pub hmac : List ℕ → List ℕ → List ℕ
hmac key text = hash (keyed (actual_key key) opad ++ hash (keyed (actual_key key) ipad ++ text))
