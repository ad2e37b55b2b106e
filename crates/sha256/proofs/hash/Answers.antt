-- The hash from the initial hash value, with nothing before.
use mathlib.Core.List.{List}
use mathlib.Core.Path.{ap, ◌∙◌}
use Rattle.sha256.specs.Sha256.{finished}
use Rattle.sha256.proofs.Blocks.{hash-at-once}
use Rattle.sha256.proofs.hash.Goals as goal

pub returns : goal.returns
returns c =
    let m = c.args.message.now in
    c.finish.ensures ∙ ap (λ (h : List _). finished h 0 m) c.initial.ensures ∙ hash-at-once m
