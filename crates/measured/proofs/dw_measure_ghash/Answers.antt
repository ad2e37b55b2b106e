-- The key as a block, its table, and the stream over the whole blocks.
use mathlib.Core.Path.{ap, ◌∙◌}
use borrow.Author.Rules.{rules}
use native.Mathlib.Omega.{arith}
use Prim.Native.Nat.{◌*◌, ◌/◌}
use lib.ListN.{length}
use lib.Seq.{take_all}
use Rattle.octets.specs.Octets.{bytes, number}
use Rattle.gcm_table.specs.Table.{key_of}
use Rattle.gcm_hash.specs.Hash.{state}
use Rattle.measured.proofs.Blocks.{stream-is}
use Rattle.measured.proofs.dw_measure_ghash.Goals as goal

pub returns : goal.returns
returns c =
    let a = c.args in
    let key = a.key.now in
    let number_of_lem = c.load_block.ensures ∙ ap number (take_all 16 key (search rules)) in
    c.spelled.ensures
    ∙ ap (bytes 16)
    (stream-is (number key) (key_of c.make_table-table.result.entries) (state c.begin.result) (state c.absorb-g.result) a.source.now (length a.source.now / 16 * 16)
    (λ i. (c.type_inv.source i).fits) (omega arith) (c.make_table-table.ensures ∙ number_of_lem) c.begin.ensures c.absorb-g.ensures)
