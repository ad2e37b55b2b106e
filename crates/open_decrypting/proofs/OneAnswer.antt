-- The contract fixes everything: any two answers, expected numbers and buffers that it permits are equal.
use Prim.Native.Nat.{ℕ}
use mathlib.Core.Path.{◌≡◌, refl, sym, ◌∙◌}
use mathlib.Core.List.{List}
use Rattle.std.specs.Prelude.{Result}
use Rattle.octets.specs.Outcome.{Outcome}
use Rattle.octets.specs.declared.refusal.Refusal.{Refusal}
use Rattle.octets.proofs.Refusals.{outcome-once}
use Rattle.protection.specs.Clear.{Opened}
use Rattle.open_decrypting.specs.Decrypting.{Report, report_of, opening_answer, Leaves}
use Rattle.open_writing.specs.declared.Opened as Code

abbrev opened_back : Report → Code.Opened
opened_back o = record {
  number = record { 0 = o.full_number };
  number_length = o.number_length;
  header_length = o.header_length;
  payload_length = o.payload_length;
  used = o.bytes_used;
}

pub opening-once : {o : Outcome Report} {r r' : Result Code.Opened Refusal} → opening_answer r ≡ o → opening_answer r' ≡ o → r ≡ r'
opening-once = outcome-once report_of opened_back (λ o. refl)

pub decrypt-once : {o : Outcome Opened} {e next next' : ℕ} {before then then' : List ℕ} {r r' : Result Code.Opened Refusal} → Leaves o e next before then r
    → Leaves o e next' before then' r' → (r ≡ r') × (next ≡ next') × (then ≡ then')
decrypt-once a b = (opening-once a.answer b.answer, a.number ∙ sym b.number, a.buffer ∙ sym b.buffer)
