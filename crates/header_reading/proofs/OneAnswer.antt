-- Each contract fixes its answer: any two answers that it permits are equal.
use Prim.Native.Nat.{ℕ}
use mathlib.Core.Path.{◌≡◌, refl}
use mathlib.Core.List.{List}
use Rattle.std.specs.Prelude.{Result}
use Rattle.octets.specs.Outcome.{Outcome}
use Rattle.octets.specs.declared.refusal.Refusal.{Refusal}
use Rattle.octets.proofs.Refusals.{outcome-once}
use Rattle.header_fields.proofs.OneAnswer.{place_back}
use Rattle.header_reading.specs.PacketHeader as Section17
use Rattle.header_reading.specs.Answers.{header_of, reading_answer, ReadHeader}
use Rattle.header_reading.specs.declared.Header.{Header}

header_back : Section17.Header → Header
header_back h = record {
  version = h.version;
  level = h.level;
  destination = place_back h.destination;
  source = place_back h.source;
  token = place_back h.token;
  length = h.length';
  number_at = h.number_at;
}

header-back : (h : Header) → header_back (header_of h) ≡ h
unfolding header_back
header-back h = refl

-- of whichever versions are wanted: one outcome is one answer
pub read-fields-once : {o : Outcome Section17.Header} {r r' : Result Header Refusal} → reading_answer r ≡ o → reading_answer r' ≡ o → r ≡ r'
read-fields-once = outcome-once header_of header_back header-back

pub read-header-once : {d : List ℕ} {r r' : Result Header Refusal} → ReadHeader d r → ReadHeader d r' → r ≡ r'
read-header-once a b = read-fields-once a.answer b.answer
