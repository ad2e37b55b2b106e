-- Blanks of a text made zeros, one character a turn.
use Prim.Native.Nat.{ℕ, suc, ◌+◌, ◌<◌, ◌≤◌}
use mathlib.Core.List.{List, [], ◌∷◌, ◌++◌, append_assoc, append-nil}
use mathlib.Core.Path.{◌≡◌, sym, ap, ap₂, ◌∙◌}
use native.Mathlib.Numerals.{add-one}
use native.Mathlib.Omega.{arith}
use borrow.Author.Tests.{ne_eqb}
use lib.ListN.{length, get_or, set, take, drop, drop_of_length-le}
use lib.Seq.{take-suc-set, drop-set-lt, drop-cons, take_all}
use Rattle.terminal.specs.Blanks.{unblanked, zeroed}

-- a character that is none of the three stays
pub no-blank : (c : ℕ) → (c ≡ 32 → ⊥) → (c ≡ 9 → ⊥) → (c ≡ 13 → ⊥) → unblanked c ≡ c
unfolding unblanked
no-blank c a b d = simp (ne_eqb c 32 a, ne_eqb c 9 b, ne_eqb c 13 d)

pub blank : (c : ℕ) → c ≡ 32 → unblanked c ≡ 0
unfolding unblanked
blank c h = ap unblanked h

pub tab : (c : ℕ) → c ≡ 9 → unblanked c ≡ 0
unfolding unblanked
tab c h = ap unblanked h

pub carriage-return : (c : ℕ) → c ≡ 13 → unblanked c ≡ 0
unfolding unblanked
carriage-return c h = ap unblanked h

-- a turn: the front as it is written and the rest as it will be stay the same
pub zero_turn : (d : List ℕ) (i v : ℕ) → i < length d → v ≡ unblanked (get_or d i 0)
    → take (i + 1) (set d i v) ++ zeroed (drop (i + 1) (set d i v)) ≡ take i d ++ zeroed (drop i d)
unfolding zeroed
zero_turn d i v l e =
    ap (λ (n : ℕ). take n (set d i v) ++ zeroed (drop n (set d i v))) (add-one i)
    ∙ ap₂ (λ (f t : List ℕ). f ++ zeroed t) (take-suc-set d i v l) (drop-set-lt (suc i) d i v (omega arith))
    ∙ append_assoc (take i d) (v ∷ []) (zeroed (drop (suc i) d))
    ∙ ap (λ (c : ℕ). take i d ++ c ∷ zeroed (drop (suc i) d)) e
    ∙ ap (λ (r : List ℕ). take i d ++ r) (sym (ap zeroed (drop-cons d i 0 l)))

pub zero-ends : (d : List ℕ) (i : ℕ) → length d ≤ i → take i d ++ zeroed (drop i d) ≡ d
unfolding zeroed
zero-ends d i l = ap₂ (λ (f t : List ℕ). f ++ zeroed t) (take_all i d l) (drop_of_length-le d l) ∙ append-nil d
