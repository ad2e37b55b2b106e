-- Each entry is the share of one run.
use Prim.Native.Nat.{ℕ, ◌+◌}
use mathlib.Core.Path.{ap, ap₂, ◌∙◌}
use lib.Bits.{bit_xor}
use Rattle.gcm_product.proofs.Runs.{four_runs}
use Rattle.gcm_table.specs.Table.{entry_of, key_of}
use Rattle.gcm_product.proofs.four.Goals as goal

pub returns : goal.returns
returns c =
    let a = c.args in
    let table = a.table.now.entries in
    let at : ℕ → ℕ = entry_of table in
    let one = ap (λ (k : ℕ). at (a.e + k)) c.nibble.ensures in
    let two = ap (λ (k : ℕ). at (a.e + 16 + k)) c.nibble-2.ensures in
    let three = ap (λ (k : ℕ). at (a.e + 32 + k)) c.nibble-3.ensures in
    let four = ap (λ (k : ℕ). at (a.e + 48 + k)) c.nibble-4.ensures in
    c.add-3.ensures
    ∙ ap₂ bit_xor c.add.ensures c.add-2.ensures
    ∙ four_runs (key_of table) table a.e a.w _ _ _ _ a.table.now.is_table.rule c.requires.0 c.requires.1 one two three four
