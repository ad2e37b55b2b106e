use mathlib.Core.Path.{refl, ap, ◌∙◌}
use native.Mathlib.Omega.{arith}
use Rattle.aes_state.specs.State.{input}
use Rattle.aes_byte_rounds.specs.Cipher.{rounds}
use Rattle.aes_byte_rounds.proofs.Rounds.{rounds-turn, rounds-end}
use Rattle.aes_word_state.specs.Columns.{state_of}
use Rattle.aes_word_rounds.proofs.Pairs.{pair_is}
use Rattle.aes_word_rounds.proofs.Tables.encrypt_two.Goals as goal

pub loop-round-init : goal.loop-round-init
unfolding rounds
loop-round-init c = (refl, refl)

pub loop-round-preserved : goal.loop-round-preserved
loop-round-preserved c =
    let l = c.loop-round in
    let w = c.args.schedule.now in
    let key = ap input (c.input-key.ensures ∙ c.round_key.ensures.part) in (
      rounds-turn w (state_of c.begin-s.result) (state_of l.s) l.round l.auto.round l.invariant.0 key c.one_round-s.ensures,
      rounds-turn w (state_of c.begin-t.result) (state_of l.t) l.round l.auto.round l.invariant.1 key c.one_round-t.ensures,
    )

pub returns : goal.returns
returns c =
    let l = c.loop-round in
    let a = c.args in
    let w = a.schedule.now in
    pair_is w a.one.now a.two.now
    (rounds-end w (state_of c.begin-s.result) (state_of l.s) l.round a.one.now (omega arith) refl refl c.begin-s.ensures l.invariant.0 refl refl c.finish.ensures)
    (rounds-end w (state_of c.begin-t.result) (state_of l.t) l.round a.two.now (omega arith) refl refl c.begin-t.ensures l.invariant.1 refl refl c.finish-2.ensures)
    c.copy.ensures c.copy-2.ensures
