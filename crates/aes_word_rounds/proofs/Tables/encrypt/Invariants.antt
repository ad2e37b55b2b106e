-- Before round n the state is that of rounds 1 to n - 1.
use Prim.Native.Nat.{◌-◌}
use mathlib.Core.Path.{◌≡◌}
use Rattle.aes_byte_rounds.specs.Cipher.{rounds}
use Rattle.aes_word_state.specs.Columns.{state_of}
use Rattle.aes_word_rounds.proofs.Tables.encrypt.Given as goal

abbrev pub invariant-loop-round : goal.invariant-loop-round
invariant-loop-round l = state_of l.s ≡ rounds l.schedule (l.round - 1) (state_of l.initial.s)
