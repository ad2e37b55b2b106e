use mathlib.Core.Path.{sym, ap, ap₂, ◌∙◌}
use mathlib.Core.Bool.{◌&&◌}
use mathlib.Core.List.{List}
use Prim.Native.Nat.{ℕ}
use native.Mathlib.Omega.{arith}
use lib.Dec.{eqb}
use lib.ListN.{length}
use Rattle.std.proofs.lemmas.Iterator.{empty_from_Zip}
use Rattle.std.proofs.lemmas.Slice.Zip.{Zip-more}
use Rattle.octets.specs.Octets.{same}
use Rattle.octets.proofs.Same.{unequal-same}
use Rattle.gcm.proofs.Comparing.{same_more, same_end}
use Rattle.gcm.proofs.same_tag.Goals as goal

pub returns-then-a-b : goal.returns-then-a-b
returns-then-a-b c = sym (unequal-same c.args.a.now c.args.b.now (λ e. c.if-a-b.true (ap length e)))

pub loop-x-preserved : goal.loop-x-preserved
loop-x-preserved c =
    let l = c.loop-x in
    let first = Zip-more l.x-iterator c.next.new.self _ _ c.in-Some.is c.next.ensures.steps in (
      omega (arith, l.invariant.0, ap length first.0, ap length first.1),
      same_more l.unlike c.in-Some.x.now c.in-Some.y.now _ _ ∙ sym (ap₂ (λ (xs ys : List ℕ). eqb l.unlike 0 && same xs ys) first.0 first.1) ∙ l.invariant.1,
    )

pub returns : goal.returns
returns c =
    let l = c.loop-x in
    let spent = empty_from_Zip l.x-iterator c.next.new.self _ c.in-None.is c.next.ensures.steps l.invariant.0 in
    sym (same_end l.unlike) ∙ sym (ap₂ (λ (xs ys : List ℕ). eqb l.unlike 0 && same xs ys) spent.0 spent.1) ∙ l.invariant.1
