-- What C's argument for the side stands for, and what an answer of keys does.
use Rattle.std.specs.Prelude.{ℕ, zero, suc, Result}
use Rattle.octets.specs.Outcome.{Outcome}
use Rattle.octets.specs.declared.refusal.Refusal.{Refusal}
use Rattle.protection.specs.Protection.{Keys}
use Rattle.protection.specs.declared.Keys as Code
use Rattle.keys.specs.Sides.{Side, client, server}
use Rattle.keys.specs.Answers.{made_answer}

-- 0 is the client, anything else the server
abbrev pub side_by : ℕ → Side
side_by zero = client
side_by (suc any) = server

-- the keys, or the refusal's number
abbrev pub outcome_of : Result Code.Keys Refusal → Outcome Keys
outcome_of = made_answer
