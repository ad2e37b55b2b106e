use mathlib.Core.Path.{refl, ap, ◌∙◌}
use native.Mathlib.Omega.{arith}
use Rattle.aes_state.specs.State.{input}
use Rattle.aes_byte_rounds.specs.Cipher.{rounds}
use Rattle.aes_byte_rounds.proofs.Rounds.{rounds-turn, rounds-end}
use Rattle.aes_word_state.specs.Columns.{state_of}
use Rattle.aes_word_rounds.proofs.Tables.encrypt.Goals as goal

pub loop-round-init : goal.loop-round-init
unfolding rounds
loop-round-init c = refl

pub loop-round-preserved : goal.loop-round-preserved
loop-round-preserved c =
    let l = c.loop-round in
    let key = ap input (c.input.ensures ∙ c.round_key.ensures.part) in
    rounds-turn c.args.schedule.now (state_of c.begin-s.result) (state_of l.s) l.round l.auto.round l.invariant key c.one_round-s.ensures

pub returns : goal.returns
returns c =
    let l = c.loop-round in
    let a = c.args in
    rounds-end a.schedule.now (state_of c.begin-s.result) (state_of l.s) l.round a.block.now (omega arith) refl refl c.begin-s.ensures l.invariant refl refl c.finish.ensures
