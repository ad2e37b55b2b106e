-- The text holds the info with a one behind it.
use Prim.Native.Nat.{ℕ, ◌+◌}
use mathlib.Core.List.{List}
use mathlib.Core.Path.{refl, ap, ◌∙◌}
use lib.ListN.{length, take, replicate, length-append}
use Rattle.octets.proofs.Buffers.{begun-front}
use Rattle.hmac.specs.Hmac.{hmac}
use Rattle.hkdf.proofs.Info.{text-written, first_block}
use Rattle.hkdf.proofs.expand.Goals as goal

pub returns : goal.returns
returns c =
    let a = c.args in
    let text = a.info.now in
    let copied = c.copy.ensures in
    let written = text-written (replicate 260 0) _ _ text _ copied c.store.ensures refl in
    c.hmac.ensures
    ∙ ap (λ (d : List ℕ). hmac a.prk.now (take (length text + 1) d)) written
    ∙ ap (hmac a.prk.now) (begun-front _ (replicate 260 0) (length text + 1) (length-append text _))
    ∙ first_block a.prk.now text
