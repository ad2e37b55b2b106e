-- The pieces one after the other, closed, then the ciphertext, closed, then the lengths.
use Rattle.gcm_hash.specs.Hash.{state}
use Rattle.gcm_field.specs.Field.{num}
use Rattle.gcm_table.specs.Table.{key_of}
use Rattle.gcm.proofs.Tagging.{hash-is}
use Rattle.gcm.proofs.hash.Goals as goal

pub returns : goal.returns
returns c =
    let a = c.args in
    hash-is (key_of c.make_table-table.result.entries) (num a.key) _ a.first.now a.second.now a.third.now a.cipher.now
    (state c.begin.result) (state c.absorb-one.result) (state c.absorb-two.result) (state c.absorb-three.result) (state c.pad.result) (state c.absorb-text.result)
    (λ i. (c.type_inv.first i).fits) (λ i. (c.type_inv.second i).fits)
    (λ i. (c.type_inv.third i).fits) (λ i. (c.type_inv.cipher i).fits)
    c.requires.0 c.requires.1 c.make_table-table.ensures c.begin.ensures c.absorb-one.ensures c.absorb-two.ensures c.absorb-three.ensures
    c.pad.ensures.0 c.absorb-text.ensures c.finish.ensures
