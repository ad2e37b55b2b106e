-- The first byte and the number's bytes, each with its part of the mask laid on.
use Prim.Native.Nat.{◌+◌, ◌-◌}
use mathlib.Core.Path.{ap, ◌∙◌}
use borrow.Author.Rules.{rules}
use native.Mathlib.Omega.{arith}
use lib.ListN.{take, replicate}
use Rattle.header_forms.specs.Answers.{form_of}
use Rattle.protection.specs.Protection.{on_first}
use Rattle.seal_masking.proofs.Masking.{number-taken, mask-laid}
use Rattle.seal_masking.proofs.protect.Goals as goal

pub returns : goal.returns
unfolding on_first
returns c =
    let a = c.args in
    let buffer = a.buffer.now in
    let short = ap (take a.count) c.copy.ensures ∙ number-taken (replicate 4 0) buffer a.place (a.place + a.count - a.place) a.count (omega arith) (omega arith) in
    mask-laid (form_of a.form) a.mask buffer _ _ _ a.place a.count _ (search rules) c.put.ensures c.mask_first-first.ensures short c.copy_masked.ensures
