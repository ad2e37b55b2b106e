use mathlib.Core.Path.{refl, ap, ◌∙◌}
use native.Mathlib.Omega.{arith}
use Rattle.aes_state.specs.State.{input}
use Rattle.aes_byte_rounds.specs.Cipher.{rounds}
use Rattle.aes_byte_rounds.proofs.Rounds.{rounds-turn, rounds-end}
use Rattle.aes_byte_rounds.proofs.encrypt_with.Goals as goal

pub loop-round-init : goal.loop-round-init
unfolding rounds
loop-round-init c = refl

pub loop-round-preserved : goal.loop-round-preserved
loop-round-preserved c =
    let l = c.loop-round in
    rounds-turn c.args.schedule.now _ l.s l.round l.auto.round l.invariant (c.input-in-loop-round.ensures ∙ ap input c.round_key-in-loop-round.ensures.part) c.one_round-next.ensures

pub returns : goal.returns
returns c =
    let l = c.loop-round in
    let a = c.args in
    rounds-end a.schedule.now _ l.s l.round a.block.now (omega arith)
    c.input.ensures (c.input-2.ensures ∙ ap input c.round_key.ensures.part) c.add_round_key-s.ensures l.invariant
    (c.input-3.ensures ∙ ap input c.round_key-2.ensures.part) c.last_round.ensures c.output.ensures
