-- Each field goes on where the one before it ends.
use Prim.Native.Nat.{ℕ, ◌+◌}
use mathlib.Core.Path.{refl}
use mathlib.Core.List.{List, [], ◌∷◌, ◌++◌}
use native.Mathlib.Omega.{arith}
use lib.ListN.{length, length-append}
use Rattle.octets.specs.Octets.{bytes}
use Rattle.octets.proofs.Numbers.{bytes-length}
use Rattle.octets.proofs.Buffers.{goes_on}
use Rattle.header_writing.specs.Written.{with_length, long_fields}
use Rattle.header_writing.proofs.write_long.Goals as goal

pub returns : goal.returns
unfolding long_fields
returns c =
    let a = c.args in
    let out = a.buffer.now in
    let first : List ℕ = a.first ∷ [] in
    let version = bytes 4 a.version in
    let destination = with_length a.destination.now in
    let source = with_length a.source.now in
    let four = bytes-length 4 a.version in
    let before = length-append version destination in
    let all = length-append (version ++ destination) source in
    let one = goes_on [] first out out _ 0 refl c.put.ensures refl in
    let two = goes_on first version out _ _ 1 one c.store.ensures refl in
    let three = goes_on (first ++ version) destination out _ _ 5 two c.write_id.ensures (omega arith) in
    record {
      holds = goes_on (first ++ version ++ destination) source out _ _ (6 + length a.destination.now) three c.write_id-2.ensures (omega arith);
      ends = omega arith;
    }
