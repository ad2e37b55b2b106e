use mathlib.Core.Path.{refl}
use lib.ListN.{length-set}
use Rattle.gcm_field.specs.Field.{num}
use Rattle.gcm_table.proofs.Filling.{double-turn}
use Rattle.gcm_table.proofs.double.Goals as goal

pub loop-k-preserved : goal.loop-k-preserved
loop-k-preserved c =
    let a = c.args in
    let l = c.loop-k in
    let less = c.loop-k-test.true in (
      simp length-set l.invariant.0,
      λ h ew f. double-turn h l.table _ a.e a.i l.k (num a.w) c.add.result l.invariant.0 c.requires.1 c.requires.2 c.requires.3 less (c.requires.4 l.k less)
          refl c.add.ensures ew (l.invariant.1 h ew f),
    )
