-- The entry of the version's own row.
use mathlib.Core.Path.{sym, ◌∙◌}
use Rattle.octets.specs.Octets.{bytes}
use Rattle.versions.specs.Versions.{version1, draft2}
use Rattle.versions.proofs.Versions.{entry}
use Rattle.versions.proofs.retry_nonce.Goals as goal

pub returns : goal.returns
unfolding version1 draft2 bytes
returns c = c.by_version.ensures ∙ sym (entry c.args.version (λ v. v.retry_nonce))
