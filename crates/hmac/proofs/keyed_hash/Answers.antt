-- The hash goes on from the keyed block.
use Prim.Native.Nat.{ℕ}
use mathlib.Core.List.{List}
use mathlib.Core.Path.{ap, ap₂, ◌∙◌}
use Rattle.sha256.specs.Sha256.{compressed, finished}
use Rattle.sha256.proofs.Blocks.{hash-behind}
use Rattle.hmac.specs.Hmac.{keyed}
use Rattle.hmac.proofs.Keyed.{keyed-length}
use Rattle.hmac.proofs.keyed_hash.Goals as goal

pub returns : goal.returns
returns c =
    let key = c.args.key.now in
    let text = c.args.text.now in
    let block = keyed key c.args.pad in
    let value = c.compress-value.ensures ∙ ap₂ compressed c.initial.ensures c.keyed_block-block.ensures in
    c.finish.ensures ∙ ap (λ (h : List ℕ). finished h 64 text) value ∙ hash-behind block text (keyed-length key c.args.pad c.requires.0)
