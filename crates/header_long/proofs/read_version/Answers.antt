-- Each answer is one law.
use mathlib.Core.Path.{sym, ap, ◌∙◌}
use Rattle.octets.specs.Outcome.{given}
use Rattle.header_long.proofs.LongHeaders.{version-short, version-found}
use Rattle.header_long.proofs.read_version.Goals as goal

pub returns-then-datagram-lt5 : goal.returns-then-datagram-lt5
returns-then-datagram-lt5 c = sym (version-short _ c.if-datagram-lt5.true)

pub returns : goal.returns
returns c = ap given c.word.ensures ∙ sym (version-found _ c.if-datagram-lt5.false)
