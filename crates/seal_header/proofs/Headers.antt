-- Where the fields before the number end, and the plain header by what is written of it.
use Prim.Native.Nat.{ℕ, suc, ◌≤◌}
use mathlib.Core.Path.{◌≡◌, subst}
use mathlib.Core.List.{List, ◌∷◌}
use native.Mathlib.Omega.{arith}
use lib.ListN.{length}
use Rattle.octets.specs.Octets.{bytes, laid, Begins}
use Rattle.octets.proofs.Buffers.{goes_on}
use Rattle.versions.specs.Versions.{version, type_for}
use Rattle.versions.proofs.Versions.{type-fits}
use Rattle.header_forms.specs.Rules.{in_force}
use Rattle.header_writing.specs.Written.{TokenField, packet_fields, size_before_number, Plain, first_byte, fields, length_of}
use Rattle.header_writing.proofs.Forms.{fields-length}
use Rattle.seal_header.specs.HeaderWritten.{HeaderWritten}

-- a type that is written is below four
pub type-narrow : (type v level : ℕ) → type ≡ type_for (version v) level → type ≤ 3
type-narrow type v level is = omega (arith, is, type-fits v level)

-- whatever Length they tell
pub fields-end : (v counted place : ℕ) (destination source : List ℕ) (token : TokenField) → place ≡ suc (length (packet_fields in_force v destination source token counted))
    → place ≡ size_before_number in_force destination source token counted
fields-end v counted place destination source token is = omega (arith, is, fields-length in_force v destination source token counted)

-- the fields, and the number's low bytes behind them, where the first byte and Length are right
pub header-written : (v level first counted place : ℕ) (p : Plain) (before one two : List ℕ)
    → Begins (first ∷ packet_fields in_force v p.destination p.source p.token counted) before one place
    → two ≡ laid one place (bytes p.number_length p.packet_number)
    → first ≡ first_byte v level p
    → counted ≡ length_of p
    → HeaderWritten v level p before two place
header-written v level first counted place p before one two begins stored its-first its-length =
    let b = subst (λ (f : ℕ). Begins (f ∷ packet_fields in_force v p.destination p.source p.token counted) before one place) its-first begins in
    let f = subst (λ (n : ℕ). Begins (first_byte v level p ∷ packet_fields in_force v p.destination p.source p.token n) before one place) its-length b in
    record {
      holds = goes_on (first_byte v level p ∷ fields in_force v p) (bytes p.number_length p.packet_number) before one two place f.holds stored f.ends;
      stands = omega (arith, f.ends);
    }
