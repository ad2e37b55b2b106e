-- The keys of the side that is meant, as they were made.
use mathlib.Core.Path.{ap}
use Rattle.protection.specs.KeyRecord.{keys_of}
use Rattle.keys.specs.InitialKeys.{initial_keys}
use Rattle.c_forms.proofs.Answering.{telling}
use Rattle.c_keys.proofs.KeysAnswered.{keys-answered}
use Rattle.c_keys.proofs.initial_keys.Goals as goal

pub returns : goal.returns
returns c =
    let a = c.args in
    keys-answered c.initial_keys-made.result (ap (initial_keys a.version a.destination.now) c.side_by.ensures) c.initial_keys-made.ensures
    (telling keys_of c.initial_keys-made.result c.map.result c.map.ensures.cases (λ v report is. is) c.report.ensures)
