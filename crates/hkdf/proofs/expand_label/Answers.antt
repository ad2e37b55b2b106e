-- The first block of the label's info, cut to what is lent.
use Prim.Native.Nat.{ℕ, ◌+◌}
use mathlib.Core.List.{List}
use mathlib.Core.Path.{ap, ◌∙◌}
use native.Mathlib.Omega.{arith}
use lib.ListN.{length, take, replicate}
use Rattle.octets.proofs.Buffers.{begun-front}
use Rattle.hkdf.specs.Hkdf.{T, info}
use Rattle.hkdf.proofs.Info.{info-length, expand-label-is}
use Rattle.hkdf.proofs.expand_label.Goals as goal

pub returns : goal.returns
returns c =
    let secret = c.args.secret.now in
    let label = c.args.label.now in
    let size : ℕ = length c.args.out.now in
    let block = c.expand-block in
    let text = ap (take (length label + 10)) c.write_info.ensures ∙ begun-front (info label size) (replicate 259 0) (length label + 10) (info-length label size) in
    c.copy_from_slice.ensures.after ∙ expand-label-is secret label block.result size (omega arith) (block.ensures ∙ ap (λ (s : List ℕ). T secret s 1) text)
