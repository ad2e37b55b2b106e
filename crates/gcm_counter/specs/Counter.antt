-- Counter mode with a 96-bit nonce, SP 800-38D, over the key schedule of AES-128; all numbers big-endian.
use Rattle.std.specs.Prelude.{ℕ, zero, suc, ◌+◌, ◌/◌, List, [], ◌++◌, length, take, drop}
use Rattle.octets.specs.Octets.{bytes, number, xor}
use Rattle.aes_byte_rounds.specs.Cipher.{encrypted}
use Rattle.aes_schedule.specs.Expansion.{expansion}

-- section 6.2, inc_32: the last 32 bits of a block, as a number, go up by one modulo 2 ^ 32
unfoldable pub inc32 : List ℕ → List ℕ
inc32 block = take 12 block ++ bytes 4 (number (drop 12 block) + 1)

-- section 6.5: CIPH_K of n counter blocks, the first of which is given
unfoldable pub key_stream : List ℕ → ℕ → List ℕ → List ℕ
key_stream schedule zero counter = []
key_stream schedule (suc n) counter = encrypted schedule counter ++ key_stream schedule n (inc32 counter)

-- section 6.5, GCTR_K: the last block of X may be short, and as many bits of the key stream are taken
unfoldable pub gctr : List ℕ → List ℕ → List ℕ → List ℕ
gctr schedule counter x = xor x (key_stream schedule ((length x + 15) / 16) counter)

-- section 7.1, step 2: J_0 = IV || 0^31 || 1
unfoldable pub j0 : List ℕ → List ℕ
j0 nonce = nonce ++ bytes 4 1

-- step 3: C = GCTR_K(inc_32(J_0), P)
unfoldable pub stream_by : List ℕ → List ℕ → List ℕ → List ℕ
stream_by schedule nonce text = gctr schedule (inc32 (j0 nonce)) text

-- ---- under a key
unfoldable pub stream : List ℕ → List ℕ → List ℕ → List ℕ
stream key nonce text = stream_by (expansion key) nonce text
