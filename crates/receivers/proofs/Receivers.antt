-- Demand 3 for any receiver that keeps its promise, by induction over what comes.
use Prim.Native.Nat.{ℕ, max}
use mathlib.Core.Path.{◌≡◌, refl, sym, ap, ap₂, ◌∙◌}
use mathlib.Core.List.{List, [], ◌∷◌}
use mathlib.Core.Bool.{Bool, true, false, cond}
use native.Mathlib.Omega.{arith}
use Rattle.receivers.specs.Receivers.{Receiver, answers, final, Promise, Terms, arrivals, Fair, behind_all, packets, of_packets, furthest, Received, Keeps, Demand3}

module _ {State Arrival Answer Sent : Type 0} (r : Receiver State Arrival Answer) (p : Promise State Arrival Answer Sent)
    (t : Terms State Sent) (k : Keeps r p t) where
  -- without the rubbish, from one thing on: as it was behind it
  packets-on : (s : State) (c : Sent) (cs : List Sent) (ys : List Answer) (b : Bool) → p.is_rubbish c ≡ b
      → r.next s (p.arrival c) ≡ p.behind s c
      → of_packets p cs ys ≡ answers r (p.behind s c) (arrivals p (packets p cs))
      → cond b (of_packets p cs ys) (r.answer s (p.arrival c) ∷ of_packets p cs ys) ≡ answers r s (arrivals p (cond b (packets p cs) (c ∷ packets p cs)))
  packets-on s c cs ys true is moved on = on ∙ ap (λ (z : State). answers r z (arrivals p (packets p cs))) (k.rubbish-moves-nothing s c is)
  packets-on s c cs ys false is moved on =
      ap (λ (more : List Answer). r.answer s (p.arrival c) ∷ more) (on ∙ sym (ap (λ (z : State). answers r z (arrivals p (packets p cs))) moved))

  -- one thing comes, and then the others
  one_more : (s : State) (c : Sent) (cs : List Sent) → t.Right s → t.FairOne s c → Received r p (p.behind s c) cs → Received r p s (c ∷ cs)
  one_more s c cs right fair ih =
      let moved = k.moves-as-owed s c right fair in
      let later = ap (λ (z : State). answers r z (arrivals p cs)) moved in
      record {
        each = ap₂ (λ (y : Answer) (ys : List Answer). y ∷ ys) (k.answers-as-owed s c right fair) (later ∙ ih.each);
        undisturbed = packets-on s c cs _ (p.is_rubbish c) refl moved (ap (of_packets p cs) later ∙ ih.undisturbed);
        last = ap (λ (z : State). final r z (arrivals p cs)) moved ∙ ih.last;
      }

  pub received : Demand3 r p t
  received s [] right fair = record { each = refl; undisturbed = refl; last = refl }
  received s (c ∷ cs) right fair =
      one_more s c cs right fair.0 (received (p.behind s c) cs (k.stays-right s c right fair.0) fair.1)

-- a fair list is fair in every weaker sense
module _ {State Arrival Answer Sent : Type 0} (p : Promise State Arrival Answer Sent) (Strong Weak : State → Sent → Type 0)
    (weaker : (s : State) (c : Sent) → Strong s c → Weak s c) where
  pub fair-too : (s : State) (cs : List Sent) → Fair p Strong s cs → Fair p Weak s cs
  fair-too s [] fair = tt
  fair-too s (c ∷ cs) fair = (weaker s c fair.0, fair-too (p.behind s c) cs fair.1)

-- a number that each thing moves to the larger of what it was and the thing's reach is in the end the larger of what it was and the furthest reach
module _ {State Arrival Answer Sent : Type 0} (p : Promise State Arrival Answer Sent) (measure : State → ℕ) (reach : Sent → ℕ)
    (moves : (s : State) (c : Sent) → measure (p.behind s c) ≡ max (measure s) (reach c)) where
  pub reached : (s : State) (cs : List Sent) → measure (behind_all p s cs) ≡ max (measure s) (furthest reach cs)
  reached s [] = omega arith
  reached s (c ∷ cs) = reached (p.behind s c) cs ∙ omega (arith, moves s c)

-- what each step keeps holds in the end, whatever comes
module _ {State Arrival Answer : Type 0} (r : Receiver State Arrival Answer) (Holds : State → Type 0)
    (keeps : (s : State) (a : Arrival) → Holds s → Holds (r.next s a)) where
  pub throughout : (s : State) (coming : List Arrival) → Holds s → Holds (final r s coming)
  throughout s [] h = h
  throughout s (a ∷ later) h = throughout (r.next s a) later (keeps s a h)
