-- The place was found within the datagram.
use Prim.Native.Nat.{◌≤◌}
use mathlib.Core.Path.{sym, subst}
use lib.ListN.{length}
use Rattle.header_fields.specs.Fields.{Place, behind}
use Rattle.retry_checking.proofs.Refusals.{retry-there, part-there}
use Rattle.retry_parts.proofs.retry_part.Goals as goal

pub part_at-requires : goal.part_at-requires
part_at-requires c =
    let there = retry-there _ _ _ c.in-Ok.ensures.answer in
    subst (λ (p : Place). behind p ≤ length c.args.datagram.now) (sym c.place.ensures) (part-there _ there)
