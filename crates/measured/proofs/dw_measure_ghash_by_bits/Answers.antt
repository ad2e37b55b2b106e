-- The key as a block, and the hash bit by bit.
use Prim.Native.Nat.{ℕ}
use mathlib.Core.Path.{ap, ◌∙◌}
use borrow.Author.Rules.{rules}
use lib.Seq.{take_all}
use Rattle.octets.specs.Octets.{bytes, number}
use Rattle.gcm_hash.specs.Hash.{ghash}
use Rattle.measured.proofs.dw_measure_ghash_by_bits.Goals as goal

pub returns : goal.returns
returns c =
    let a = c.args in
    let key = a.key.now in
    let number_of_lem = c.load_block.ensures ∙ ap number (take_all 16 key (search rules)) in
    c.spelled.ensures ∙ ap (bytes 16) (c.hash.ensures ∙ ap (λ (h : ℕ). ghash h a.source.now) number_of_lem)
