-- What judging a datagram's form comes to, by what the tests show; and what is known of one that was judged right.
use Prim.Native.Nat.{ℕ, ◌/◌, ◌≤◌, ◌<◌}
use mathlib.Core.Path.{◌≡◌, sym}
use mathlib.Core.Bool.{◌&&◌}
use mathlib.Core.List.{List}
use lib.Dec.{leb}
use lib.ListN.{length, get_or}
use borrow.Author.Tests.{le-leb, lt-leb, leb-true, eq-eqb, ne_eqb}
use Rattle.octets.specs.Outcome.{refused, given}
use Rattle.octets.proofs.Outcome.{passed, both}
use Rattle.header_forms.specs.Rules.{Rules}
use Rattle.header_forms.specs.Forms.{Form, formed}

module _ (rules : Rules) (form : Form) (d : List ℕ) where
  pub formed-empty : length d < 1 → formed rules form d ≡ refused 1
  unfolding formed
  formed-empty h = rw (lt-leb 1 (length d) h)

  module _ (some : 1 ≤ length d) where
    pub formed-large : rules.limit < length d → formed rules form d ≡ refused 1
    unfolding formed
    formed-large h = rw (le-leb 1 (length d) some, lt-leb (length d) rules.limit h)

    module _ (fits : length d ≤ rules.limit) where
      pub formed-other : (get_or d 0 0 / 64 ≡ form.top_bits → ⊥) → formed rules form d ≡ refused 2
      unfolding formed
      formed-other h = rw (le-leb 1 (length d) some, le-leb (length d) rules.limit fits, ne_eqb (get_or d 0 0 / 64) form.top_bits h)

      pub formed-right : get_or d 0 0 / 64 ≡ form.top_bits → formed rules form d ≡ given tt
      unfolding formed
      formed-right h = rw (le-leb 1 (length d) some, le-leb (length d) rules.limit fits, eq-eqb (get_or d 0 0 / 64) form.top_bits h)

-- its size
pub formed-fits : (rules : Rules) (form : Form) (d : List ℕ) → given tt ≡ formed rules form d → length d ≤ rules.limit
unfolding formed
formed-fits rules form d is =
    let size = passed 1 (leb 1 (length d) && leb (length d) rules.limit) _ (sym is) in
    leb-true (length d) rules.limit (both (leb 1 (length d)) (leb (length d) rules.limit) size.0).1
