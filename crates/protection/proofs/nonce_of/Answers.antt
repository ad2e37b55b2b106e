-- The number stored in the last eight of twelve zeros, and the iv laid over with it.
use Prim.Native.Nat.{ℕ}
use mathlib.Core.Path.{ap, ◌∙◌}
use mathlib.Core.List.{List}
use borrow.Author.Rules.{rules}
use native.Mathlib.Omega.{arith}
use lib.ListN.{replicate}
use Rattle.octets.specs.Octets.{laid, xor}
use Rattle.protection.proofs.Filled.{combined}
use Rattle.protection.proofs.nonce_of.Goals as goal

pub returns : goal.returns
returns c =
    let a = c.args in
    c.copy_masked.ensures ∙ ap (λ (s : List ℕ). laid (replicate 12 0) 0 (xor a.iv.now s)) c.store.ensures
    ∙ combined a.iv.now a.number (search rules) (omega arith)
