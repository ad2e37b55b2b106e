use Rattle.std.proofs.Common.{get_or, refl}
use Rattle.sha256_rounds.specs.Rounds.{rounds}
use Rattle.sha256_rounds.proofs.Turns.{rounds-turn}
use Rattle.sha256_rounds.proofs.all_rounds.Goals as goal

pub loop-t-init : goal.loop-t-init
unfolding rounds
loop-t-init c = refl

pub loop-t-preserved : goal.loop-t-preserved
loop-t-preserved c =
    let l = c.loop-t in
    let a = c.args in
    rounds-turn (λ i. get_or a.w.now i 0) a.h a.k.now.words l.v _ l.t a.k.now.are_k l.invariant c.one_round-next.ensures
