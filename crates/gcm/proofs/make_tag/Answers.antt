-- S under the mask.
use Prim.Native.Nat.{ℕ}
use mathlib.Core.Path.{ap, ◌∙◌}
use Rattle.octets.specs.Octets.{bytes}
use Rattle.gcm_counter.specs.Counter.{gctr, j0}
use Rattle.gcm.specs.Gcm.{tag_by}
use Rattle.gcm.proofs.make_tag.Goals as goal

pub returns : goal.returns
unfolding tag_by
returns c =
    let a = c.args in
    c.masked.ensures ∙ ap (λ (s : ℕ). gctr a.schedule.now (j0 a.nonce.now) (bytes 16 s)) c.hash.ensures
