-- What C is told of a packet, by what opening answered of the keys that C's record stands for.
use Prim.Native.Nat.{ℕ}
use mathlib.Core.Path.{◌≡◌, subst}
use mathlib.Core.List.{List}
use Rattle.std.specs.Prelude.{Result}
use Rattle.octets.specs.Outcome.{Outcome, refused, given}
use Rattle.octets.specs.declared.refusal.Refusal.{Refusal}
use Rattle.protection.specs.Protection.{Keys}
use Rattle.protection.specs.Clear.{Opened}
use Rattle.open_writing.specs.declared.Opened as Code
use Rattle.open_decrypting.specs.Decrypting.{reported}
use Rattle.open.specs.Opening.{Open}
use Rattle.c_forms.specs.Promises.{Answers}
use Rattle.c_open.specs.Promises.{opened_numbers, report_numbers}

-- the lengths that are reported are those of the plain header and of the payload
pub opening : {before : List ℕ} {r : ℕ} {report : List ℕ} (o : Outcome Opened) → Answers (reported o) report_numbers before r report → Answers o opened_numbers before r report
opening (refused n) a = record { answer = a.answer; reported = a.reported }
opening (given opened) a = record { answer = a.answer; reported = a.reported }

pub meant : {k k' : Keys} {d : List ℕ} {expected next : ℕ} {buffer then : List ℕ} {r : Result Code.Opened Refusal}
    → k ≡ k' → Open k d expected next buffer then r → Open k' d expected next buffer then r
meant {d = d} {expected} {next} {buffer} {then} {r} same opened = subst (λ (x : Keys). Open x d expected next buffer then r) same opened
