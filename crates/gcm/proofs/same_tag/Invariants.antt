-- The differences so far and what is left to compare decide as the whole lists do.
use mathlib.Core.Path.{◌≡◌}
use mathlib.Core.Bool.{◌&&◌}
use lib.ListN.{length}
use lib.Dec.{eqb}
use Rattle.std.specs.Iterator.Adapters.{zip_first, zip_second}
use Rattle.std.specs.Slice.Iter.{iter_rest}
use Rattle.octets.specs.Octets.{same}
use Rattle.gcm.proofs.same_tag.Given as goal

abbrev pub invariant-loop-x : goal.invariant-loop-x
invariant-loop-x l =
    let xs = iter_rest (zip_first l.x-iterator) in
    let ys = iter_rest (zip_second l.x-iterator) in
    (length xs ≡ length ys) × (eqb l.unlike 0 && same xs ys ≡ same l.a l.b)
