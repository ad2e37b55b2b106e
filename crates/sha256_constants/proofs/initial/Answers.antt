-- The code's words are those of the definition.
use mathlib.Core.Path.{refl}
use Rattle.sha256_constants.specs.Constants.{H⁰}
use Rattle.sha256_constants.proofs.initial.Goals as goal

pub returns : goal.returns
unfolding H⁰
returns c = refl
