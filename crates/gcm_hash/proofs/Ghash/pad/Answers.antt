-- A block that has begun is multiplied as it is.
use Prim.Native.Nat.{ℕ}
use mathlib.Core.Path.{refl, sym, ap, ◌∙◌}
use native.Mathlib.Omega.{arith}
use Rattle.gcm_hash.proofs.Stream.{at, closed_some, closed_none}
use Rattle.gcm_field.specs.Field.{num}
use Rattle.gcm_table.specs.Table.{key_of}
use Rattle.gcm_hash.proofs.Ghash.pad.Goals as goal

pub returns-then-self-gt0 : goal.returns-then-self-gt0
returns-then-self-gt0 c =
    let g = c.args.self in
    (ap (λ (y : ℕ). at y 0) c.times.ensures ∙ sym (closed_some (key_of c.args.table.now.entries) (num g.y) g.filled (omega arith)), refl)

pub returns : goal.returns
returns c =
    let g = c.args.self in
    (sym (closed_none (key_of c.args.table.now.entries) (num g.y) g.filled (omega arith)), omega arith)
