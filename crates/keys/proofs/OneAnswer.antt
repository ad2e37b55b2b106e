-- What making keys and installing them promise permits one answer only.
use Prim.Native.Nat.{ℕ}
use mathlib.Core.Path.{◌≡◌}
use mathlib.Core.List.{List}
use Rattle.std.specs.Prelude.{Result}
use Rattle.octets.specs.Outcome.{Outcome}
use Rattle.octets.specs.declared.refusal.Refusal.{Refusal}
use Rattle.octets.proofs.Refusals.{outcome-once}
use Rattle.protection.specs.Protection.{Keys}
use Rattle.protection.specs.KeyRecord.{keys_of}
use Rattle.protection.specs.declared.Keys as Code
use Rattle.keys_expansion.proofs.OneAnswer.{keys_back, keys-back}
use Rattle.keys.specs.declared.Side.{Side}
use Rattle.keys.specs.Answers.{Made, InitialKeysMade, KeysInstalled}

made-once : {o : Outcome Keys} {r r' : Result Code.Keys Refusal} → Made o r → Made o r' → r ≡ r'
made-once = outcome-once keys_of keys_back keys-back

pub initial-keys-once : (v : ℕ) (destination : List ℕ) (side : Side) {r r' : Result Code.Keys Refusal}
    → InitialKeysMade v destination side r → InitialKeysMade v destination side r' → r ≡ r'
initial-keys-once _ _ _ = made-once

pub install-keys-once : (v level : ℕ) (sender : Side) (secret : List ℕ) {r r' : Result Code.Keys Refusal}
    → KeysInstalled v level sender secret r → KeysInstalled v level sender secret r' → r ≡ r'
install-keys-once _ _ _ _ = made-once
