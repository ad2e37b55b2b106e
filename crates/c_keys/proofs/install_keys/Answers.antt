-- The keys of the side that is meant, as they were installed.
use mathlib.Core.Path.{ap}
use Rattle.protection.specs.KeyRecord.{keys_of}
use Rattle.keys.specs.Sides.{Side}
use Rattle.keys.specs.InstalledKeys.{installed}
use Rattle.c_forms.proofs.Answering.{telling}
use Rattle.c_keys.proofs.KeysAnswered.{keys-answered}
use Rattle.c_keys.proofs.install_keys.Goals as goal

pub returns : goal.returns
returns c =
    let a = c.args in
    keys-answered c.install_keys-made.result (ap (λ (s : Side). installed a.version a.level s a.secret.now) c.side_by.ensures) c.install_keys-made.ensures
    (telling keys_of c.install_keys-made.result c.map.result c.map.ensures.cases (λ v report is. is) c.report.ensures)
