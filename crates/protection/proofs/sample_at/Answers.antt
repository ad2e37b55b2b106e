-- Sixteen bytes are copied.
use Prim.Native.Nat.{◌+◌, ◌-◌}
use mathlib.Core.Path.{◌≡◌, ap, ◌∙◌}
use native.Mathlib.Omega.{arith}
use Rattle.octets.specs.Octets.{part}
use Rattle.protection.specs.Protection.{sample_of}
use Rattle.protection.proofs.sample_at.Goals as goal

pub returns : goal.returns
unfolding sample_of
returns c =
    let a = c.args in
    let counted : a.place + 20 - (a.place + 4) ≡ 16 = omega arith in
    c.copy_from_slice.ensures.after ∙ ap (part a.packet.now (a.place + 4)) counted
