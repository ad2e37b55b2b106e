-- What judging answers.
use Rattle.std.specs.Prelude.{ℕ, List, leb, length, Option, Some, None, Result}
use Rattle.std.specs.Borrow.{Bor}
use Rattle.octets.specs.Outcome.{Outcome, given, unless, ◌>>◌}
use Rattle.octets.specs.Refusals.{outcome}
use Rattle.octets.specs.declared.refusal.Refusal.{Refusal}
use Rattle.header_forms.specs.Rules.{in_force}

-- the packet's length, or why there is none
abbrev pub sealing_answer : Result ℕ Refusal → Outcome ℕ
sealing_answer = outcome (λ n. n)

-- how long a token is, as far as there is a field for it
abbrev pub held_of : Option (Bor (List ℕ)) → ℕ
held_of (Some token) = length token.now
held_of None = 0

-- a packet's size, judged: the last two refusals of sealing
unfoldable pub sized : (size room : ℕ) → Outcome ℕ
sized size room = do
  unless 1 (leb size in_force.limit)
  unless 8 (leb size room)
  given size
