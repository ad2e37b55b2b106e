-- Version 1 is known, and of any other number the draft alone.
use mathlib.Core.Path.{sym}
use Rattle.versions.proofs.Versions.{known-one, known-other}
use Rattle.versions.proofs.is_known.Goals as goal

pub returns-then-version-eq-VERSION_1 : goal.returns-then-version-eq-VERSION_1
returns-then-version-eq-VERSION_1 c = sym (known-one _ c.if-version-eq-VERSION_1.true)

pub returns : goal.returns
returns c = sym (known-other _ c.if-version-eq-VERSION_1.false)
