-- What is left is closed, then the lengths are one block more.
use Prim.Native.Nat.{ℕ, ◌+◌, ◌*◌, ◌^◌}
use mathlib.Core.Path.{ap, ◌∙◌}
use lib.Bits.{bit_xor}
use Rattle.gcm_hash.specs.Hash.{State, finished}
use Rattle.gcm_field.specs.Field.{◌•◌}
use Rattle.gcm_table.specs.Table.{key_of}
use Rattle.gcm_hash.proofs.Ghash.finish.Goals as goal

pub returns : goal.returns
unfolding finished
returns c =
    let a = c.args in
    let h = key_of a.table.now.entries in
    let lengths : ℕ = 8 * a.associated * 2 ^ 64 + 8 * a.cipher in
    c.times.ensures ∙ ap (λ (x : ℕ). x • h) (c.add.ensures ∙ ap (λ (g : State). bit_xor g.y lengths) c.pad-g.ensures.0)
