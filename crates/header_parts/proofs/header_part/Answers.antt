-- The place was found within the datagram.
use Prim.Native.Nat.{◌≤◌}
use mathlib.Core.Path.{sym, subst}
use lib.ListN.{length}
use Rattle.header_fields.specs.Fields.{Place, behind}
use Rattle.header_reading.proofs.PacketHeaders.{any-there, part-there}
use Rattle.header_parts.proofs.header_part.Goals as goal

pub part_at-requires : goal.part_at-requires
part_at-requires c =
    let there = any-there _ _ c.in-Ok.ensures.answer in
    subst (λ (p : Place). behind p ≤ length c.args.datagram.now) (sym c.place.ensures) (part-there _ there)
