-- What is left to read from the value so far gives the number of all bytes; the value so far fits the bytes read.
use Prim.Native.Nat.{◌*◌, ◌^◌, ◌≤◌, ◌<◌}
use mathlib.Core.Path.{◌≡◌}
use lib.ListN.{length, drop}
use Rattle.octets.proofs.Numbers.{read_on}
use Rattle.octets.proofs.load.Given as goal

abbrev pub invariant-loop-byte : goal.invariant-loop-byte
invariant-loop-byte l = (l.byte-index ≤ length l.source) × (l.value < 2 ^ (8 * l.byte-index)) × (read_on l.value (drop l.byte-index l.source) ≡ read_on 0 l.source)
