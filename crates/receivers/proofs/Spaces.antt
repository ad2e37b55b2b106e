-- A numbering in each space counts as it does in one, and the spaces stand apart.
use Prim.Native.Nat.{◌+◌, ◌≤◌, max}
use mathlib.Core.Path.{◌≡◌, refl, sym, ap, subst, ◌∙◌}
use native.Mathlib.Omega.{arith}
use Rattle.receivers.specs.Openings.{Numbering, Counts}
use Rattle.receivers.specs.Spaces.{Space, initial, handshake, application, Each, in_all, at, put, in_each_space, SpacesApart}

module _ {A : Type 0} where
  at_all : (sp : Space) (x : A) → at sp (in_all x) ≡ x
  at_all initial x = refl
  at_all handshake x = refl
  at_all application x = refl

  at-put : (sp : Space) (x : A) (ks : Each A) → at sp (put sp x ks) ≡ x
  at-put initial x ks = refl
  at-put handshake x ks = refl
  at-put application x ks = refl

  -- in any space stands what was put there, or what stood there before
  put-or-stood : (P : A → Type 0) (sp any : Space) (x : A) (ks : Each A) → (any ≡ sp → P x) → P (at any ks) → P (at any (put sp x ks))
  put-or-stood P initial initial x ks was-put stood = was-put refl
  put-or-stood P initial handshake x ks was-put stood = stood
  put-or-stood P initial application x ks was-put stood = stood
  put-or-stood P handshake initial x ks was-put stood = stood
  put-or-stood P handshake handshake x ks was-put stood = was-put refl
  put-or-stood P handshake application x ks was-put stood = stood
  put-or-stood P application initial x ks was-put stood = stood
  put-or-stood P application handshake x ks was-put stood = stood
  put-or-stood P application application x ks was-put stood = was-put refl

  -- where one space moves, each has moved or stayed
  moved-or-stayed : (R : A → A → Type 0) (move : A → A) → ((x : A) → R x (move x)) → ((x : A) → R x x)
      → (sp any : Space) (ks : Each A) → R (at any ks) (at any (put sp (move (at sp ks)) ks))
  moved-or-stayed R move moved stayed sp any ks =
      put-or-stood (λ y. R (at any ks) y) sp any (move (at sp ks)) ks
      (λ same. subst (λ (z : Space). R (at z ks) (move (at sp ks))) (sym same) (moved (at sp ks))) (stayed (at any ks))

module _ {Kept Arrival : Type 0} (space_of : Arrival → Space) (n : Numbering Kept Arrival) where
  each_counts : Counts n → Counts (in_each_space space_of n)
  each_counts c = record {
    starts = λ a. ap (λ (k : Kept). n.expected_by k a) (at_all (space_of a) n.start) ∙ c.starts a;
    grows = λ ks a m. ap (λ (k : Kept). n.expected_by k a) (at-put (space_of a) (n.after (at (space_of a) ks) a m) ks) ∙ c.grows (at (space_of a) ks) a m;
    never_back = λ ks a b m.
        moved-or-stayed (λ x y. n.expected_by x a ≤ n.expected_by y a) (λ x. n.after x b m)
        (λ x. c.never_back x a b m) (λ x. omega arith) (space_of b) (space_of a) ks;
    never-beyond = λ ks a b m.
        moved-or-stayed (λ x y. n.expected_by y a ≤ max (n.expected_by x a) (m + 1)) (λ x. n.after x b m)
        (λ x. c.never-beyond x a b m) (λ x. omega arith) (space_of b) (space_of a) ks;
  }

  pub spaces-apart : SpacesApart space_of n
  spaces-apart = record {
    counted = each_counts;
    apart = λ ks a m other differ.
        put-or-stood (λ y. y ≡ at other ks) (space_of a) other (n.after (at (space_of a) ks) a m) ks (λ same. absurd (differ same)) refl;
  }
