-- Each label is the version's own.
use mathlib.Core.Path.{refl}
use native.Mathlib.Omega.{arith}
use Rattle.octets.specs.Text.{ascii}
use Rattle.versions.specs.Versions.{version1, draft2}
use Rattle.versions.proofs.Versions.{version-one, version-other}
use Rattle.keys_expansion.proofs.label_of.Goals as goal

pub returns-in-Key : goal.returns-in-Key
unfolding version1 draft2 ascii
returns-in-Key c = (omega arith, rw (c.in-Key.is, version-one _ c.if-number-eq-VERSION_1.true) refl)

pub returns-in-Iv : goal.returns-in-Iv
unfolding version1 draft2 ascii
returns-in-Iv c = (omega arith, rw (c.in-Iv.is, version-one _ c.if-number-eq-VERSION_1.true) refl)

pub returns-in-Hp : goal.returns-in-Hp
unfolding version1 draft2 ascii
returns-in-Hp c = (omega arith, rw (c.in-Hp.is, version-one _ c.if-number-eq-VERSION_1.true) refl)

pub returns-in-Key-part : goal.returns-in-Key-part
unfolding version1 draft2 ascii
returns-in-Key-part c = (omega arith, rw (c.in-Key-part.is, version-other _ c.if-number-eq-VERSION_1.false) refl)

pub returns-in-Iv-part : goal.returns-in-Iv-part
unfolding version1 draft2 ascii
returns-in-Iv-part c = (omega arith, rw (c.in-Iv-part.is, version-other _ c.if-number-eq-VERSION_1.false) refl)

pub returns-in-Hp-part : goal.returns-in-Hp-part
unfolding version1 draft2 ascii
returns-in-Hp-part c = (omega arith, rw (c.in-Hp-part.is, version-other _ c.if-number-eq-VERSION_1.false) refl)
