-- An entry of the table for each row, turned to it.
use Prim.Native.Nat.{ℕ, ◌/◌, ◌%◌, ◌^◌, ◌<◌}
use mathlib.Core.Path.{ap, ◌∙◌}
use native.Mathlib.Nat.{mod-lt}
use lib.Dec.{lit<}
use Rattle.octets.specs.Octets.{bytes}
use Rattle.aes_word_table.specs.Table.{entry}
use Rattle.aes_word_columns.proofs.Columns.{mixed-is, lowest}
use Rattle.aes_word_columns.proofs.mix.Goals as goal

byte : (n : ℕ) → n % 256 < 256
byte n = mod-lt n (lit< tt)

pub returns : goal.returns
unfolding bytes
returns c =
    let a = c.args in
    let at = c.args.mixing.now.is_mixing.rule in
    mixed-is _ _ _ _ a.k _ _ _ _
    (at (a.a / 2 ^ 24 % 256) (byte (a.a / 2 ^ 24)))
    (at (a.b / 2 ^ 16 % 256) (byte (a.b / 2 ^ 16)))
    (at (a.c / 2 ^ 8 % 256) (byte (a.c / 2 ^ 8)))
    (at (a.d % 256) (byte a.d) ∙ ap entry (lowest a.d))
    c.rotate_right.ensures
    c.rotate_right-2.ensures
    c.rotate_right-3.ensures
