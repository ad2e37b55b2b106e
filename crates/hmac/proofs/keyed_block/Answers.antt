-- The masked key over the pad bytes is the keyed block.
use mathlib.Core.Path.{◌∙◌}
use Rattle.hmac.proofs.Keyed.{keyed-is}
use Rattle.hmac.proofs.keyed_block.Goals as goal

pub returns : goal.returns
returns c =
    c.copy_masked.ensures ∙ keyed-is c.args.key.now c.args.pad c.requires
