-- The number fits 32 bits, or not.
use mathlib.Core.Path.{sym, ◌∙◌}
use Rattle.wicket_words.proofs.Named.{version-read}
use Rattle.wicket_words.proofs.version.Goals as goal

pub returns : goal.returns
returns c =
    let number = c.number.ensures in
    c.unwrap_or.ensures ∙ version-read c.args.line.now c.args.index c.try_from.result (rw (sym number) c.try_from.ensures)
