-- A refusal, and what is written.
use native.Mathlib.Omega.{arith}
use Rattle.measured.proofs.Sealing.{no-room-to-stream, streamed}
use Rattle.measured.proofs.dw_measure_counter.Goals as goal

pub returns-then-out-text : goal.returns-then-out-text
returns-then-out-text c =
    let a = c.args in
    let both = no-room-to-stream a.schedule.now a.nonce.now a.text.now a.out.now (omega arith) in
    record { answered = both.0; laid = both.1 }

pub returns : goal.returns
returns c =
    let a = c.args in
    let both = streamed a.schedule.now a.nonce.now a.text.now a.out.now _ (omega arith) c.crypt.ensures in
    record { answered = both.0; laid = both.1 }
