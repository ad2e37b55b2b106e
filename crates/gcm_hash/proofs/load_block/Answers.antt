-- Two words of eight bytes.
use Prim.Native.Nat.{ℕ, ◌+◌, ◌*◌, ◌^◌}
use mathlib.Core.Path.{ap₂, ◌∙◌}
use native.Mathlib.Omega.{arith}
use Rattle.gcm_hash.proofs.Loading.{two-words}
use Rattle.gcm_hash.proofs.load_block.Goals as goal

pub returns : goal.returns
returns c =
    let a = c.args in
    ap₂ (λ (x y : ℕ). x * 2 ^ 64 + y) c.load-hi.ensures c.load-lo.ensures ∙ two-words a.bytes.now a.at (omega arith)
