-- With the keys and the acknowledged number that C's arguments stand for.
use Rattle.c_forms.proofs.Answering.{telling}
use Rattle.c_seal.proofs.Answered.{seal-told}
use Rattle.c_seal.proofs.seal_plain.Goals as goal

pub returns : goal.returns
returns c = seal-told c.load_keys.ensures c.acknowledged_by-acknowledged.ensures c.seal-sealed.ensures
    (telling (λ n. n) c.seal-sealed.result c.map-numbers.result c.map-numbers.ensures.cases (λ v report is. is) c.report.ensures)
