-- Demand 3 for the receiver of any lawful opening and numbering.
use Prim.Native.Nat.{ℕ, ◌≤◌}
use mathlib.Core.Path.{◌≡◌, refl, sym, ap, ◌∙◌}
use mathlib.Core.Bool.{true}
use native.Mathlib.Omega.{arith}
use Rattle.octets.specs.Outcome.{Outcome, refused, given, ◌>>=◌, ◌>>◌}
use Rattle.octets.proofs.Outcome.{given-same, stepped, followed}
use Rattle.receivers.specs.Receivers.{Keeps, Demand3}
use Rattle.receivers.specs.Openings.{Numbering, Counts, expected_only, Opening, Standing, standing_after, yielded, outcome, receiver, WhateverArrives, Sending, promise, is_refused, FairAs, terms, Lawful}
use Rattle.receivers.proofs.Receivers.{received}

-- ---- the expected number alone
pub expected-counts : {Arrival : Type 0} → Counts (expected_only {Arrival = Arrival})
expected-counts = record {
  starts = λ a. refl;
  grows = λ e a m. refl;
  never_back = λ e a b m. omega arith;
  never-beyond = λ e a b m. omega arith;
}

-- it refuses no number, so the outcome is the opening's own
nothing-judged : {Opened : Type 0} (r : Outcome Opened) → (r >>= λ x. given x) ≡ r
nothing-judged (refused why) = refl
nothing-judged (given x) = refl

pub outcome-alone : {Holding Arrival Opened : Type 0} (o : Opening Holding Arrival Opened) (s : Standing Holding ℕ) (a : Arrival)
    → outcome o expected_only s a ≡ o.opened s.holding s.kept a
outcome-alone o s a = nothing-judged (o.opened s.holding s.kept a)

-- ---- whatever arrives
module _ {Holding Kept Arrival Opened : Type 0} (o : Opening Holding Arrival Opened) (n : Numbering Kept Arrival)
    (s : Standing Holding Kept) (a : Arrival) where
  passed-both : (x : Opened) → outcome o n s a ≡ given x
      → (o.opened s.holding (n.expected_by s.kept a) a ≡ given x) × (n.judge s.kept a (o.effects.number_of x) ≡ given tt)
  passed-both x h =
      let judged : Opened → Outcome (Unit {0}) = λ y. n.judge s.kept a (o.effects.number_of y) in
      let first = stepped (o.opened s.holding (n.expected_by s.kept a) a) (λ y. judged y >> given y) h in
      let second = followed (judged first.0) (given first.0) first.2 in
      let same : first.0 ≡ x = given-same second.2 in
      (first.1 ∙ ap given same, sym (ap judged same) ∙ second.1)

  pub whatever-arrives : WhateverArrives o n s a
  whatever-arrives = record {
    given-passed = passed-both;
    refused-untouched = λ why h. ap (yielded o.effects n s a) h;
    refused-unmoved = λ why h. ap (standing_after o.effects n s a) h;
  }

-- ---- what is fair
module _ {Holding Kept Arrival Opened Sent : Type 0} (o : Opening Holding Arrival Opened) (n : Numbering Kept Arrival)
    (w : Sending Holding Arrival Opened Sent) (Good : Standing Holding Kept → Sent → Type 0) (top : ℕ) (law : Lawful o n w Good top) where
  module _ (s : Standing Holding Kept) (c : Sent) (right : (terms o n w Good top).Right s) where
    come-out : (r : Outcome Opened) → w.owes s.holding c ≡ r → FairAs o n w Good s c r → outcome o n s (w.arrival c) ≡ r
    come-out (refused why) owes fair = fair
    come-out (given x) owes good = let out = law.good-comes-out s c x right owes good in rw (out.opens, out.passes)

    -- what is expected stays within the numbers
    within : (r : Outcome Opened) → w.owes s.holding c ≡ r → FairAs o n w Good s c r
        → (a : Arrival) → n.expected_by (standing_after o.effects n s (w.arrival c) r).kept a ≤ top
    within (refused why) owes fair a = right a
    within (given x) owes good a =
        let beyond = law.counts.never-beyond s.kept a (w.arrival c) (o.effects.number_of x) in
        omega (arith, right a, (law.good-comes-out s c x right owes good).in-range, beyond)

  -- a refusal moves nothing
  still : (s : Standing Holding Kept) (a : Arrival) (r : Outcome Opened) → is_refused r ≡ true → standing_after o.effects n s a r ≡ s
  still s a (refused why) is = refl
  still s a (given x) is = absurd (let z : ◌≡◌ {A = ℕ} 0 1 = cc in omega arith)

  pub keeps : Keeps (receiver o n) (promise o.effects n w) (terms o n w Good top)
  keeps = record {
    answers-as-owed = λ s c right fair. ap (yielded o.effects n s (w.arrival c)) (come-out s c right (w.owes s.holding c) refl fair);
    moves-as-owed = λ s c right fair. ap (standing_after o.effects n s (w.arrival c)) (come-out s c right (w.owes s.holding c) refl fair);
    stays-right = λ s c right fair. within s c right (w.owes s.holding c) refl fair;
    rubbish-moves-nothing = λ s c is. still s (w.arrival c) (w.owes s.holding c) (law.refuses-rubbish s.holding c ∙ is);
  }

  pub lawful-receives : Demand3 (receiver o n) (promise o.effects n w) (terms o n w Good top)
  lawful-receives = received (receiver o n) (promise o.effects n w) (terms o n w Good top) keeps
