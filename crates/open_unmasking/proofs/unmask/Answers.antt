-- The first byte under the mask tells how many bytes the number has.
use Prim.Native.Nat.{ℕ, ◌+◌, ◌-◌, ◌%◌}
use mathlib.Core.Path.{refl, ap, ◌∙◌}
use borrow.Author.Rules.{rules}
use native.Mathlib.Omega.{arith}
use lib.ListN.{take, replicate}
use Rattle.header_forms.specs.Answers.{form_of}
use Rattle.protection.specs.Protection.{on_first}
use Rattle.protection.specs.KeyRecord.{keys_of}
use Rattle.open_unmasking.proofs.Masking.{short-taken, unmasks}
use Rattle.open_unmasking.proofs.unmask.Goals as goal

pub returns : goal.returns
unfolding on_first
returns c =
    let a = c.args in
    let d = a.datagram.now in
    let mask = c.mask_of-mask.result in
    let count : ℕ = c.mask_first-first.result % 4 + 1 in
    let short = short-taken d mask (replicate 4 0) a.place (a.place + count - a.place) count (search rules) (omega arith) (omega arith) in
    unmasks (form_of a.form) (keys_of a.keys) d mask _ a.place _ (omega arith) c.mask_of-mask.ensures c.mask_first-first.ensures refl
    (ap (take count) c.copy_masked.ensures ∙ short) c.read_short.ensures
