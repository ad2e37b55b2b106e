use mathlib.Core.Path.{sym, ◌∙◌}
use native.Mathlib.Omega.{arith}
use Rattle.gcm_table.specs.Table.{key_of}
use Rattle.gcm_hash.specs.Hash.{state}
use Rattle.gcm_hash.proofs.Stream.{absorbed-end}
use Rattle.gcm_hash.proofs.Ghash.absorb.Goals as goal

pub returns : goal.returns
returns c =
    let l = c.loop-at in
    let a = c.args in
    sym (absorbed-end (key_of a.table.now.entries) (state l.g) a.bytes.now l.at (omega arith)) ∙ l.invariant.1
