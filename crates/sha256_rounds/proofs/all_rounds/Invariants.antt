-- Before turn t, v holds the working variables after t rounds.
use Rattle.std.proofs.Common.{◌≡◌, get_or}
use Rattle.sha256_rounds.specs.Rounds.{rounds}
use Rattle.sha256_rounds.proofs.all_rounds.Given as goal

abbrev pub invariant-loop-t : goal.invariant-loop-t
invariant-loop-t l = l.v ≡ rounds (λ i. get_or l.w i 0) l.initial.v l.t
