-- The entry of the version's own row.
use mathlib.Core.Path.{sym, ◌∙◌}
use Rattle.versions.specs.Versions.{version1, draft2}
use Rattle.versions.proofs.Versions.{entry}
use Rattle.versions.proofs.handshake_type.Goals as goal

pub returns : goal.returns
unfolding version1 draft2
returns c = c.by_version.ensures ∙ sym (entry c.args.version (λ v. v.handshake_type))
