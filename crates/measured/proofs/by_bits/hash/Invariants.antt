-- The blocks that are left, chained on from Y as it is, give what all of them give from 0.
use mathlib.Core.Path.{◌≡◌}
use Rattle.std.specs.Slice.Iter.{chunks_exact_rest, chunks_exact_size}
use Rattle.gcm_field.specs.Field.{num}
use Rattle.gcm_hash.specs.Hash.{ghash}
use Rattle.measured.proofs.ByBits.{on_from}
use Rattle.measured.proofs.by_bits.hash.Given as goal

abbrev pub invariant-loop-block : goal.invariant-loop-block
invariant-loop-block l =
    (chunks_exact_size l.block-iterator ≡ 16) × (on_from (num l.h) (num l.y) (chunks_exact_rest l.block-iterator) ≡ ghash (num l.h) l.source)
