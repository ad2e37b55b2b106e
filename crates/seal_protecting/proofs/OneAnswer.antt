-- Where a header stands in the clear, protecting leaves one buffer.
use Prim.Native.Nat.{ℕ}
use mathlib.Core.Path.{◌≡◌, sym, ◌∙◌}
use mathlib.Core.List.{List}
use Rattle.octets.specs.Octets.{begun}
use Rattle.header_forms.specs.Forms.{Form}
use Rattle.protection.specs.Protection.{Keys}
use Rattle.protection.specs.Clear.{number_at, plain_header}
use Rattle.seal_protecting.specs.Protecting.{clear, Protects}

pub protect-packet-once : (form : Form) (k : Keys) (number count : ℕ) (payload : List ℕ) (place : ℕ) (before after after' : List ℕ)
    → Protects form k number count payload place before after → Protects form k number count payload place before after'
    → (first : ℕ) (fields out : List ℕ) → place ≡ number_at (clear number count payload first fields)
    → before ≡ begun (plain_header (clear number count payload first fields)) out → after ≡ after'
protect-packet-once form k number count payload place before after after' a b first fields out here begins = a first fields out here begins ∙ sym (b first fields out here begins)
