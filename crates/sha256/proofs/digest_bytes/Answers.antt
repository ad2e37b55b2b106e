use Rattle.std.proofs.Common.{◌≡◌, ℕ, List, ◌*◌, length, get_or, refl, ap, ◌∙◌, arith, rules}
use Rattle.octets.specs.Octets.{bytes, laid}
use Rattle.sha256.proofs.Digest.{written_none, written-more, written_all}
use Rattle.sha256.proofs.digest_bytes.Goals as goal

pub loop-i-init : goal.loop-i-init
loop-i-init c = (refl, written_none c.args.h)

pub loop-i-preserved : goal.loop-i-preserved
loop-i-preserved c =
    let l = c.loop-i in
    let h = c.args.h in
    let eight : length h ≡ 8 = search rules in (
      c.store.auto.buffer ∙ l.invariant.0,
      c.store.ensures ∙ ap (λ (b : List ℕ). laid b (4 * l.i) (bytes 4 (get_or h l.i 0))) l.invariant.1 ∙ written-more h l.i (omega arith),
    )

pub returns : goal.returns
returns c =
    let l = c.loop-i in
    l.invariant.1 ∙ written_all c.args.h l.i (search rules) (omega arith)
