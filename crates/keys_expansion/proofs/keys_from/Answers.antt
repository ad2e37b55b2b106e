-- Each part by its label.
use Rattle.keys_expansion.specs.Expansion.{keys_from}
use Rattle.keys_expansion.proofs.Parts.{keys-same}
use Rattle.keys_expansion.proofs.keys_from.Goals as goal

pub returns : goal.returns
unfolding keys_from
returns c = keys-same _ _ c.expand_part.ensures c.expand_part-2.ensures c.expand_part-3.ensures
