-- How long the fields of a long header are.
use Prim.Native.Nat.{ℕ, ◌+◌, ◌≤◌}
use mathlib.Core.Path.{◌≡◌, refl}
use native.Mathlib.Omega.{arith}
use mathlib.Core.List.{List, ◌++◌}
use lib.ListN.{length, length-append}
use Rattle.octets.specs.Octets.{bytes}
use Rattle.octets.proofs.Numbers.{bytes-length}
use Rattle.std.specs.Prelude.{Option, Some, None}
use Rattle.std.specs.Borrow.{Bor}
use Rattle.integers_writing.specs.Written.{smallest}
use Rattle.integers_writing.proofs.Forms.{two_bytes}
use Rattle.header_forms.specs.Rules.{Rules, in_force}
use Rattle.header_writing.specs.Written as Section17
use Rattle.header_writing.specs.Written.{with_length, long_fields, token_bytes, packet_fields, size_before_number}
use Rattle.header_writing.specs.Answers.{token_of, token_size}

pub long-length : (v : ℕ) (destination source : List ℕ) → length (long_fields v destination source) ≡ 6 + length destination + length source
unfolding long_fields
long-length v destination source =
    omega (
      arith,
      bytes-length 4 v,
      length-append (bytes 4 v) (with_length destination),
      length-append (bytes 4 v ++ with_length destination) (with_length source),
    )

pub fields-length : (rules : Rules) (v : ℕ) (destination source : List ℕ) (token : Section17.TokenField) (counted : ℕ)
    → 1 + length (packet_fields rules v destination source token counted) ≡ size_before_number rules destination source token counted
unfolding packet_fields
fields-length rules v destination source token counted =
    let ids = long_fields v destination source in
    omega (
      arith,
      long-length v destination source,
      length-append (ids ++ token_bytes token) (rules.length_form counted),
      length-append ids (token_bytes token),
    )

-- the token's field
pub token-size : (token : Option (Bor (List ℕ))) → token_size token ≡ length (token_bytes (token_of token))
token-size (Some token) = omega (arith, length-append (smallest (length token.now)) token.now)
token-size None = refl

-- Length is written in a few bytes
pub length-few : (n : ℕ) → length (in_force.length_form n) ≤ 4
length-few n = omega (arith, two_bytes n)
