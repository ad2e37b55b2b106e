-- The body behind the header and the mask over both are the packet.
use mathlib.Core.Path.{ap, ◌∙◌}
use mathlib.Core.List.{List}
use Prim.Native.Nat.{ℕ, ◌+◌}
use lib.ListN.{take}
use Rattle.octets.specs.Octets.{laid}
use Rattle.header_forms.specs.Answers.{form_of}
use Rattle.protection.specs.Clear.{body_with}
use Rattle.protection.specs.KeyRecord.{keys_of}
use Rattle.protection.specs.AesGcm.{aes_gcm}
use Rattle.seal_protecting.specs.Protecting.{clear}
use Rattle.seal_protecting.proofs.Protecting.{protected-laid}
use Rattle.seal_protecting.proofs.protect_packet.Goals as goal

pub returns : goal.returns
returns c =
    let a = c.args in
    let at = a.place + a.plain.number_length in
    let one = a.buffer.now in
    let body = c.write_body.ensures
    ∙ ap (λ (once : List ℕ). laid one at (body_with aes_gcm a.keys.key once (take at one) a.plain.payload.now)) c.nonce_of-nonce.ensures in
    λ first fields out here begins. protected-laid (form_of a.form) (keys_of a.keys) (clear a.plain.number.0 a.plain.number_length a.plain.payload.now first fields) out one _ _ _ a.place c.requires.enough here begins
    body c.mask_of-mask.ensures c.protect.ensures
