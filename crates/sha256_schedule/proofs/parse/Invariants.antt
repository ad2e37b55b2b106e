-- Before turn i the first i words are parsed.
use Rattle.std.proofs.Common.{◌≡◌, ◌*◌, length}
use Rattle.octets.specs.Octets.{number, part}
use Rattle.octets.proofs.Rule.{Filled}
use Rattle.sha256_schedule.proofs.parse.Given as goal

abbrev pub invariant-loop-i : goal.invariant-loop-i
invariant-loop-i l = (length l.m ≡ 16) × Filled (λ j. number (part l.block (4 * j) 4)) l.m l.i
