-- A byte inside the block, or its last.
use Prim.Native.Nat.{ℕ, ◌+◌}
use mathlib.Core.Path.{◌≡◌, sym, ap, ◌∙◌}
use native.Mathlib.Omega.{arith}
use Rattle.gcm_hash.proofs.Stream.{at, taken-inner, taken-last}
use Rattle.gcm_field.specs.Field.{num, ◌•◌}
use Rattle.gcm_table.specs.Table.{key_of}
use Rattle.gcm_hash.proofs.Ghash.absorb_byte.Goals as goal

pub returns-then-self-lt15 : goal.returns-then-self-lt15
returns-then-self-lt15 c =
    let g = c.args.self in
    let h = key_of c.args.table.now.entries in
    ap (λ (y : ℕ). at y (g.filled + 1)) c.with_byte-y.ensures ∙ sym (taken-inner h (num g.y) g.filled c.args.byte (omega arith))

pub returns : goal.returns
returns c =
    let g = c.args.self in
    let inside = g.is_open in
    let h = key_of c.args.table.now.entries in
    let last : g.filled ≡ 15 = omega arith in
    ap (λ (y : ℕ). at y 0) (c.times.ensures ∙ ap (λ (x : ℕ). x • h) c.with_byte-y.ensures) ∙ sym (taken-last h (num g.y) g.filled c.args.byte last)
