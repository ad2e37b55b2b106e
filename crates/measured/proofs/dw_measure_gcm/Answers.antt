-- Each refusal is one law, and so is what is written.
use native.Mathlib.Omega.{arith}
use Rattle.measured.proofs.Sealing.{wide-associated, wide-text, no_room, sealed}
use Rattle.measured.proofs.dw_measure_gcm.Goals as goal

pub returns-then-associated-gt-MOST : goal.returns-then-associated-gt-MOST
returns-then-associated-gt-MOST c =
    let a = c.args in
    let both = wide-associated a.schedule.now a.nonce.now a.associated.now a.text.now a.out.now (omega arith) in
    record { answered = both.0; laid = both.1 }

pub returns-then-text-gt-MOST : goal.returns-then-text-gt-MOST
returns-then-text-gt-MOST c =
    let a = c.args in
    let both = wide-text a.schedule.now a.nonce.now a.associated.now a.text.now a.out.now (omega arith) (omega arith) in
    record { answered = both.0; laid = both.1 }

pub returns-then-out-end : goal.returns-then-out-end
returns-then-out-end c =
    let a = c.args in
    let both = no_room a.schedule.now a.nonce.now a.associated.now a.text.now a.out.now (omega arith) (omega arith) (omega arith) in
    record { answered = both.0; laid = both.1 }

pub returns : goal.returns
returns c =
    let a = c.args in
    let both = sealed a.schedule.now a.nonce.now a.associated.now a.text.now a.out.now (omega arith) (omega arith) (omega arith) c.crypt.ensures c.hash_key-key.ensures c.make_tag-tag.ensures c.copy.ensures in
    record { answered = both.0; laid = both.1 }
