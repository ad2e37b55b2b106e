-- How long a Retry is, and how it is written, piece by piece.
use Prim.Native.Nat.{ℕ, ◌+◌, ◌%◌}
use mathlib.Core.Path.{◌≡◌, sym, ap, ◌∙◌}
use mathlib.Core.List.{List, ◌∷◌}
use native.Mathlib.Omega.{arith}
use lib.ListN.{length, take, length-append}
use Rattle.octets.specs.Octets.{laid, Begins}
use Rattle.octets.proofs.Buffers.{begun-front, goes_on}
use Rattle.versions.specs.Versions.{version}
use Rattle.header_writing.specs.Written.{long_first, long_fields}
use Rattle.header_writing.proofs.Forms.{long-length}
use Rattle.header_fields.specs.Fields.{tag_length}
use Rattle.retry_tag.specs.Tag.{retry_tag, tagged}
use Rattle.retry_tag.proofs.Tags.{tagged-length}
use Rattle.retry_writing.specs.Written.{untagged}
use Rattle.retry_writing.specs.Answers.{size_of}

pub untagged-length : (v : ℕ) (destination source token : List ℕ) (low : ℕ)
    → length (untagged v destination source token low) ≡ 7 + length destination + length source + length token
unfolding untagged
untagged-length v destination source token low =
    omega (arith, long-length v destination source, length-append (long_fields v destination source) token)

pub retry-length : (v : ℕ) (original destination source token : List ℕ) (low : ℕ)
    → length (tagged v original (untagged v destination source token low)) ≡ size_of destination source token
retry-length v original destination source token low =
    omega (arith, tagged-length v original (untagged v destination source token low), untagged-length v destination source token low)

-- ---- what is written, piece by piece
-- the token behind a first byte that says Retry, the version and the IDs
pub token-laid : (v type : ℕ) (destination source token : List ℕ) (low : ℕ) (out d₁ d₂ : List ℕ) (at : ℕ) → type ≡ (version v).retry_type
    → Begins (long_first type (low % 16) ∷ long_fields v destination source) out d₁ at → d₂ ≡ laid d₁ at token
    → Begins (untagged v destination source token low) out d₂ (at + length token)
unfolding untagged
token-laid v type destination source token low out d₁ d₂ at is begins then =
    let front : List ℕ = long_first type (low % 16) ∷ long_fields v destination source in
    rw (← is) (record {
      holds = goes_on front token out d₁ d₂ at begins.holds then begins.ends;
      ends = omega (arith, begins.ends, length-append front token);
    })

-- the tag behind all that
pub tag-laid : (v : ℕ) (original packet out d₁ d₂ tag : List ℕ) (at : ℕ)
    → Begins packet out d₁ at → tag ≡ retry_tag v original (take at d₁) → d₂ ≡ laid d₁ at tag → Begins (tagged v original packet) out d₂ (at + tag_length)
unfolding tagged
tag-laid v original packet out d₁ d₂ tag at begins made then =
    let front : take at d₁ ≡ packet = ap (take at) begins.holds ∙ begun-front packet out at (sym begins.ends) in
    let is = made ∙ ap (retry_tag v original) front in
    record {
      holds = goes_on packet (retry_tag v original packet) out d₁ d₂ at begins.holds (then ∙ ap (laid d₁ at) is) begins.ends;
      ends = omega (arith, begins.ends, tagged-length v original packet);
    }
