-- What the four callees ensure, put together.
use mathlib.Core.Path.{◌∙◌}
use Rattle.sha256.proofs.Compression.{compressed-is}
use Rattle.sha256.proofs.compress.Goals as goal

pub returns : goal.returns
returns c =
    let a = c.args in
    let w = c.schedule-w in
    c.add_words.ensures ∙ compressed-is a.h a.block.now _ w.result _ c.parse.ensures w.ensures c.all_rounds.ensures
