-- What C is answered of keys, and that no refusal of keys is numbered 0.
use Prim.Native.Nat.{ℕ}
use mathlib.Core.Path.{◌≡◌, subst, ◌∙◌}
use mathlib.Core.List.{List}
use lib.Dec.{leb, lit<}
use lib.ListN.{length}
use Rattle.std.specs.Prelude.{Result}
use Rattle.octets.specs.Outcome.{Outcome}
use Rattle.octets.specs.declared.refusal.Refusal.{Refusal}
use Rattle.versions.specs.Versions.{known}
use Rattle.header_fields.specs.Fields.{longest_id}
use Rattle.protection.specs.Protection.{Keys}
use Rattle.protection.specs.declared.Keys as Code
use Rattle.keys.specs.Sides.{Side}
use Rattle.keys.specs.InitialKeys.{initial_keys}
use Rattle.keys.specs.InstalledKeys.{installs, installed}
use Rattle.keys.specs.Answers.{Made}
use Rattle.c_forms.specs.Promises.{Answers}
use Rattle.c_forms.proofs.Numbered.{Numbered, some, tested}
use Rattle.c_key_record.specs.Layout.{key_bytes}
use Rattle.c_keys.specs.Arguments.{outcome_of}

-- no refusal of keys is numbered 0
pub initial-keys-numbered : (v : ℕ) (destination : List ℕ) (side : Side) → Numbered (initial_keys v destination side)
unfolding initial_keys
initial-keys-numbered v destination side = tested 4 (known v) (lit< tt) (tested 5 (leb (length destination) longest_id) (lit< tt) some)

pub install-keys-numbered : (v level : ℕ) (sender : Side) (secret : List ℕ) → Numbered (installed v level sender secret)
unfolding installed
install-keys-numbered v level sender secret = tested 4 (known v) (lit< tt) (tested 6 (installs level sender) (lit< tt) some)

-- what is answered is of the outcome that the keys were made of, for the side that C means
pub keys-answered : {o meant : Outcome Keys} (made : Result Code.Keys Refusal) {before after : List ℕ} {r : ℕ} → o ≡ meant → Made o made
    → Answers (outcome_of made) key_bytes before r after → Answers meant key_bytes before r after
keys-answered {o} {meant} made {before} {after} {r} means is =
    subst (λ (x : Outcome Keys). Answers x key_bytes before r after) (is ∙ means)
