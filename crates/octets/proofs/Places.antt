-- Where things stand in what is joined.
use Prim.Native.Nat.{ℕ, ◌+◌, ◌-◌, ◌≤◌}
use mathlib.Core.Path.{◌≡◌, sym, ap, ◌∙◌}
use mathlib.Core.List.{List, ◌∷◌, ◌++◌}
use native.Mathlib.Omega.{arith}
use lib.ListN.{length, get_or, take, drop, length-append, length-drop}
use lib.Seq.{take_at, drop-drop, get_or-drop, drop-append_seam}
use Rattle.octets.specs.Octets.{part}

-- from the place on, d goes on with these bytes and ends with them
pub record At (d : List ℕ) (at : ℕ) (rest : List ℕ) : Type 0 where
  pub there : drop at d ≡ rest
  pub inside : at + length rest ≡ length d

module _ (d : List ℕ) where
  pub begins : (at : ℕ) (rest : List ℕ) → at ≤ length d → drop at d ≡ rest → At d at rest
  begins at rest h e =
      let l : length rest ≡ length d - at = rw (← e) (length-drop at d) in
      record { there = e; inside = omega arith }

  -- what stands behind x
  pub past : (at to : ℕ) (x rest : List ℕ) → At d at (x ++ rest) → at + length x ≡ to → At d to rest
  past at to x rest h e = record {
    there = rw (← e, ← (drop-drop (length x) at d), h.there, drop-append_seam);
    inside = rw (← e, ← h.inside, length-append) (omega arith);
  }

  pub byte_at : (at b : ℕ) (rest : List ℕ) → At d at (b ∷ rest) → get_or d at 0 ≡ b
  byte_at at b rest h =
      let none : at ≡ at + 0 = omega arith in
      ap (λ (k : ℕ). get_or d k 0) none ∙ sym (get_or-drop at d 0 0) ∙ rw h.there

  pub part_at : (at k : ℕ) (x rest : List ℕ) → At d at (x ++ rest) → length x ≡ k → part d at k ≡ x
  part_at at k x rest h l = ap (take k) h.there ∙ take_at x rest k l
