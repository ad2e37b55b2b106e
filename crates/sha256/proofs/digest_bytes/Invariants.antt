-- Before turn i the bytes of the first i words are written.
use Rattle.std.proofs.Common.{◌≡◌, length}
use Rattle.sha256.proofs.Digest.{written}
use Rattle.sha256.proofs.digest_bytes.Given as goal

abbrev pub invariant-loop-i : goal.invariant-loop-i
invariant-loop-i l = (length l.bytes ≡ 32) × (l.bytes ≡ written l.h l.i)
