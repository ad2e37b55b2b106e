-- The key record of a line, by what stands for its keys.
use Rattle.std.proofs.Common.{◌≡◌, ap, ◌∙◌}
use Rattle.std.specs.Prelude.{Result, Ok, Err}
use Rattle.std.specs.Result.{result_unwrap_or}
use Rattle.octets.specs.Outcome.{Outcome}
use Rattle.octets.specs.declared.refusal.Refusal.{Refusal}
use Rattle.protection.specs.Protection.{Keys}
use Rattle.protection.specs.KeyRecord.{keys_of}
use Rattle.protection.specs.declared.Keys as Code
use Rattle.keys.specs.Answers.{Made, blank_keys, keys_given}

-- keys that were made, and else the record that stands for none
pub made-or-blank : {o : Outcome Keys} {blank : Code.Keys} (r : Result Code.Keys Refusal) → Made o r → keys_of blank ≡ blank_keys
    → keys_of (result_unwrap_or r blank) ≡ keys_given o
made-or-blank (Ok keys) made none = ap keys_given made
made-or-blank (Err why) made none = none ∙ ap keys_given made
