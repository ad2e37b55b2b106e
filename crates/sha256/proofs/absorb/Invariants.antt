-- What is left to absorb, from the value so far, gives what all of the message gives from the start.
use Rattle.std.proofs.Common.{◌≡◌}
use Rattle.sha256.specs.Sha256.{absorbed}
use Rattle.sha256.proofs.absorb.Given as goal

abbrev pub invariant-loop-block : goal.invariant-loop-block
invariant-loop-block l =
    (l.block-iterator.size ≡ 64) × (absorbed l.value l.block-iterator.rest.now ≡ absorbed l.initial.value l.message)
