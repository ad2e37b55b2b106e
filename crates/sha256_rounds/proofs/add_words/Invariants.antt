-- Before turn i the first i words are the sums.
use Rattle.std.proofs.Common.{◌≡◌, length}
use Rattle.octets.proofs.Rule.{Filled}
use Rattle.sha256_rounds.proofs.Sums.{sum_at}
use Rattle.sha256_rounds.proofs.add_words.Given as goal

abbrev pub invariant-loop-i : goal.invariant-loop-i
invariant-loop-i l = (length l.next ≡ 8) × Filled (sum_at l.v l.h) l.next l.i
