-- What the rooms above rest on, for all lists: counter mode undoes itself and keeps the length.
use Rattle.std.proofs.Common.{◌≡◌, ℕ, ◌+◌, ◌/◌, List, length, ap, ◌∙◌}
use Rattle.octets.specs.Octets.{xor}
use Rattle.octets.proofs.Xor.{xor-length, xor-undone}
use Rattle.aes_schedule.specs.Expansion.{expansion}
use Rattle.gcm_counter.specs.Counter.{key_stream, gctr, stream_by, stream}

module _ (schedule counter x : List ℕ) where
  pub gctr-length : length (gctr schedule counter x) ≡ length x
  unfolding gctr
  gctr-length = xor-length x (key_stream schedule ((length x + 15) / 16) counter)

  gctr-twice : gctr schedule counter (gctr schedule counter x) ≡ x
  unfolding gctr
  gctr-twice =
      let mask : ℕ → List ℕ = λ n. key_stream schedule ((n + 15) / 16) counter in
      ap (λ (n : ℕ). xor (xor x (mask (length x))) (mask n)) gctr-length ∙ xor-undone x (mask (length x))

-- ---- under a key schedule
pub stream-by-length : (schedule nonce text : List ℕ) → length (stream_by schedule nonce text) ≡ length text
unfolding stream_by
stream-by-length schedule nonce text = gctr-length schedule _ text

pub stream-by-twice : (schedule nonce text : List ℕ) → stream_by schedule nonce (stream_by schedule nonce text) ≡ text
unfolding stream_by
stream-by-twice schedule nonce text = gctr-twice schedule _ text

-- ---- under a key
pub stream-length : (key nonce text : List ℕ) → length (stream key nonce text) ≡ length text
unfolding stream
stream-length key nonce text = stream-by-length (expansion key) nonce text

pub stream-twice : (key nonce text : List ℕ) → stream key nonce (stream key nonce text) ≡ text
unfolding stream
stream-twice key nonce text = stream-by-twice (expansion key) nonce text
