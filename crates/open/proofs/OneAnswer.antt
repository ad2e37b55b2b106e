-- The contract fixes everything: any two answers, expected numbers and buffers that it permits are equal.
use Prim.Native.Nat.{ℕ}
use mathlib.Core.Path.{◌≡◌, sym, ◌∙◌}
use mathlib.Core.List.{List}
use Rattle.std.specs.Prelude.{Result}
use Rattle.octets.specs.declared.refusal.Refusal.{Refusal}
use Rattle.protection.specs.Protection.{Keys}
use Rattle.open_writing.specs.declared.Opened.{Opened}
use Rattle.open_decrypting.proofs.OneAnswer.{opening-once}
use Rattle.open.specs.Opening.{Open}

pub open-once : {k : Keys} {d : List ℕ} {e next next' : ℕ} {before then then' : List ℕ} {r r' : Result Opened Refusal}
    → Open k d e next before then r → Open k d e next' before then' r' → (r ≡ r') × (next ≡ next') × (then ≡ then')
open-once a b =
    (opening-once a.answer b.answer, a.number ∙ sym b.number, a.buffer ∙ sym b.buffer)
