-- Each part is at most the limit, so no sum leaves a word.
use Prim.Native.Nat.{◌+◌}
use native.Mathlib.Omega.{arith}
use lib.ListN.{length}
use Rattle.header_writing.proofs.Forms.{length-few}
use Rattle.seal_judging.proofs.Sizes.{held-nearly}
use Rattle.seal_judging.proofs.size_of.Goals as goal

pub token_form-requires : goal.token_form-requires
token_form-requires c = omega (arith, held-nearly c.args.plain.token)

pub overflow_add-result-3 : goal.overflow_add-result-3
overflow_add-result-3 c = omega (arith, c.token_form.ensures, held-nearly c.args.plain.token)

pub overflow_add-result-4 : goal.overflow_add-result-4
overflow_add-result-4 c =
    let p = c.args.plain in
    omega (arith, c.token_form.ensures, held-nearly p.token, c.length_form.ensures, length-few (p.number_length + length p.payload.now + 16))

pub overflow_add-result-5 : goal.overflow_add-result-5
overflow_add-result-5 c =
    let p = c.args.plain in
    omega (arith, c.token_form.ensures, held-nearly p.token, c.length_form.ensures, length-few (p.number_length + length p.payload.now + 16))
