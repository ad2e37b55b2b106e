-- What the measured functions answer, over the definitions of the rooms that they measure.
use Rattle.std.specs.Prelude.{ℕ, zero, suc, ◌+◌, List, ◌++◌, leb, length, take, drop}
use Rattle.octets.specs.Outcome.{Outcome, refused, given, unless, ◌>>◌}
use Rattle.aes_byte_rounds.specs.Cipher.{encrypted}
use Rattle.gcm.specs.Gcm.{hash_key, tag_by}
use Rattle.gcm_counter.specs.Counter.{stream_by}

-- the first n blocks of some bytes enciphered, and the rest as it was
unfoldable pub enciphered : List ℕ → ℕ → List ℕ → List ℕ
enciphered w zero s = s
enciphered w (suc n) s = encrypted w (take 16 s) ++ enciphered w n (drop 16 s)

-- a text in counter mode, where it goes into the room
unfoldable pub streaming : List ℕ → List ℕ → List ℕ → ℕ → Outcome (List ℕ)
streaming w nonce text room = do
  unless 1 (leb (length text) room)
  given (stream_by w nonce text)

-- GCM's cipher and tag of a text, where neither it nor the associated data is over 65,536 bytes and both go into the room
unfoldable pub sealing : List ℕ → List ℕ → List ℕ → List ℕ → ℕ → Outcome (List ℕ)
sealing w nonce associated text room = do
  unless 1 (leb (length associated) 65536)
  unless 1 (leb (length text) 65536)
  unless 1 (leb (length text + 16) room)
  given (stream_by w nonce text ++ tag_by w (hash_key w) nonce associated (stream_by w nonce text))

-- 1 for what is given, 0 for what is refused
abbrev pub answer : Outcome (List ℕ) → ℕ
answer (refused n) = 0
answer (given s) = 1
