-- The entry of 0, then those of 1, of 2 and 3, of 4 to 7, of 8 to 15.
use borrow.Author.Rules.{rules}
use mathlib.Core.Path.{refl}
use lib.Bits.{xor_shifted}
use Rattle.gcm_table.proofs.Filling.{run-filled}
use Rattle.gcm_field.specs.Field.{num}
use Rattle.gcm_table.proofs.fill_run.Goals as goal

pub double-requires-2 : goal.double-requires-2
double-requires-2 c = (search rules, search rules, search rules, search rules, λ k l. xor_shifted 1 1 k l)

pub double-requires-3 : goal.double-requires-3
double-requires-3 c = (search rules, search rules, search rules, search rules, λ k l. xor_shifted 1 2 k l)

pub double-requires-4 : goal.double-requires-4
double-requires-4 c = (search rules, search rules, search rules, search rules, λ k l. xor_shifted 1 3 k l)

pub returns : goal.returns
returns c =
    λ h. run-filled h c.args.table.now _ c.double.new.table c.double-2.new.table c.double-3.new.table c.double-4.new.table c.args.e (num c.args.v) _ _ _ c.requires.0 c.requires.1 c.requires.2
    c.shifted-v1.ensures c.shifted-v2.ensures c.shifted-v3.ensures
    refl c.double.ensures c.double-2.ensures c.double-3.ensures c.double-4.ensures
