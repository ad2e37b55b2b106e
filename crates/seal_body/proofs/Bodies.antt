-- The body behind a header: what is encrypted, and the tag over both.
use Prim.Native.Nat.{ℕ, ◌+◌, ◌-◌, ◌≤◌}
use mathlib.Core.Path.{◌≡◌}
use mathlib.Core.List.{List}
use native.Mathlib.Omega.{arith}
use lib.ListN.{length, take}
use Rattle.octets.specs.Octets.{part, laid}
use Rattle.octets.proofs.Buffers.{take-laid, part-laid, laid_more}
use Rattle.aes_schedule.specs.Expansion.{expansion}
use Rattle.gcm_counter.specs.Counter.{stream, stream_by}
use Rattle.gcm.specs.Gcm.{tag, tag_by, hash_key}
use Rattle.gcm_counter.proofs.Laws.{stream-by-length}
use Rattle.protection.specs.Clear.{body_with}
use Rattle.protection.specs.AesGcm.{aes_gcm}

-- the ciphertext laid at a place, and behind it the tag over what stands before and it
pub body-laid : (key once payload buffer schedule one made two : List ℕ) (at : ℕ) → at ≤ length buffer
    → schedule ≡ expansion key
    → one ≡ laid buffer at (stream_by schedule once payload)
    → made ≡ tag_by schedule (hash_key schedule) once (take at one) (part one at (at + length payload - at))
    → two ≡ laid one (at + length payload) made
    → two ≡ laid buffer at (body_with aes_gcm key once (take at buffer) payload)
unfolding body_with stream tag
body-laid key once payload buffer schedule one made two at inside expanded encrypted tagged then =
    let cipher : List ℕ = stream_by (expansion key) once payload in
    let size : length cipher ≡ length payload = stream-by-length (expansion key) once payload in
    let e : length cipher ≡ at + length payload - at = omega arith in
    rw (
      then,
      tagged,
      encrypted,
      expanded,
      take-laid buffer at cipher inside,
      part-laid buffer at cipher inside (at + length payload - at) e,
    )
    (laid_more buffer at cipher (tag_by (expansion key) (hash_key (expansion key)) once (take at buffer) cipher) (at + length payload) inside (omega arith))
