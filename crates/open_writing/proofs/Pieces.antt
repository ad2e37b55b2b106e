-- A packet's pieces, written one behind the other.
use Prim.Native.Nat.{ℕ, ◌+◌, ◌-◌}
use mathlib.Core.Path.{◌≡◌, refl, sym}
use mathlib.Core.List.{List, [], ◌∷◌}
use native.Mathlib.Omega.{arith}
use lib.ListN.{length, length-append}
use Rattle.octets.specs.Octets.{bytes, part, laid}
use Rattle.octets.proofs.Parts.{part_length}
use Rattle.octets.proofs.Numbers.{bytes-length}
use Rattle.octets.proofs.Buffers.{goes_on}
use Rattle.gcm_counter.specs.Counter.{stream_by}
use Rattle.open_unmasking.specs.Parts.{Within, plain_of, cipher_of}
use Rattle.open_unmasking.specs.declared.Packet.{Packet}
use Rattle.open_unmasking.proofs.Parts.{cipher-is}
use Rattle.open_writing.specs.Written.{Writes}

module _ (d : List ℕ) (p : Packet) (w : Within d p) where
  abbrev middle : List ℕ
  middle = part d 1 (p.place - 1)

  middle-length : length middle ≡ p.place - 1
  middle-length = part_length d 1 (p.place - 1) (omega arith)

  plain-length : length (plain_of d p) ≡ p.place + p.count
  plain-length =
      omega (arith, length-append middle (bytes p.count p.truncated.0), middle-length, bytes-length p.count p.truncated.0)

  cipher-length : length (cipher_of d p) ≡ p.length - p.count - 16
  cipher-length = part_length d (p.place + p.count) (p.length - p.count - 16) (omega arith)

  -- first byte, middle, number, payload
  pub writes : (schedule nonce b b₁ b₂ b₃ b₄ : List ℕ) → b₁ ≡ laid b 0 (p.first ∷ []) → b₂ ≡ laid b₁ 1 middle
      → b₃ ≡ laid b₂ p.place (bytes p.count p.truncated.0)
      → b₄ ≡ laid b₃ (p.place + p.count) (stream_by schedule nonce (part d (p.place + p.count) (p.place + p.length - 16 - (p.place + p.count))))
      → Writes schedule nonce d p b b₄ (record {
        number = p.number;
        number_length = p.count;
        header_length = p.place + p.count;
        payload_length = p.place + p.length - 16 - (p.place + p.count);
        used = p.place + p.length;
      })
  writes schedule nonce b b₁ b₂ b₃ b₄ one two three four =
      let front = goes_on (p.first ∷ []) middle b b₁ b₂ 1 one two refl in
      let here : p.place ≡ length (p.first ∷ middle) = omega (arith, middle-length) in
      let plain = goes_on (p.first ∷ middle) (bytes p.count p.truncated.0) b b₂ b₃ p.place front three here in
      let all = goes_on (plain_of d p) (stream_by schedule nonce (cipher_of d p)) b b₃ b₄ (p.place + p.count) plain (rw (← (cipher-is d p)) four) (sym plain-length) in
      record {
        written = all;
        number = refl;
        number_length = refl;
        header_length = sym plain-length;
        payload_length = omega (arith, cipher-length);
        bytes_used = refl;
      }
