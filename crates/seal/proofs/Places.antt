-- What can be written leaves room for the packet behind its header.
use Prim.Native.Nat.{ℕ}
use mathlib.Core.Path.{◌≡◌}
use mathlib.Core.List.{List}
use native.Mathlib.Omega.{arith}
use lib.ListN.{length}
use Rattle.header_forms.specs.Rules.{in_force}
use Rattle.header_writing.specs.Written.{Plain, length_of}
use Rattle.header_writing.proofs.Forms.{fields-length}
use Rattle.protection.specs.Clear.{number_at}
use Rattle.packets.specs.Packet.{clear_of}
use Rattle.packets.specs.Sealable.{Writable}
use Rattle.seal_protecting.specs.Protecting.{Room}

pub room : (v level : ℕ) (p : Plain) (before after : List ℕ) (place : ℕ) → Writable p (length before) → length after ≡ length before → place ≡ number_at (clear_of in_force v level p)
    → Room p.number_length p.payload place after
room v level p before after place w kept stands =
    let begun = fields-length in_force v p.destination p.source p.token (length_of p) in
    record {
      headed = omega arith;
      short = w.sealable.short;
      enough = w.sealable.enough;
      size = omega (arith, w.size);
      enters = omega (arith, w.enters);
    }
