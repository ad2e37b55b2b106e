-- A receiver by its parts: an opening, and a numbering that keeps what it needs of the numbers opened.
use Rattle.std.specs.Prelude.{ℕ, ◌+◌, ◌≤◌, ◌<◌, max, ◌≡◌, List, Bool, true, false}
use Rattle.octets.specs.Outcome.{Outcome, refused, given, ◌>>=◌, ◌>>◌}
use Rattle.octets.specs.Octets.{placed}
use Rattle.receivers.specs.Receivers.{Receiver, Promise, Terms}

-- ---- the numbers
-- what is kept where nothing was opened yet, the number expected of an arrival, the last judgement of the number that it was opened with,
-- and what is kept once that has passed
pub record Numbering (Kept Arrival : Type 0) : Type 0 where
  pub start : Kept
  pub expected_by : Kept → Arrival → ℕ
  pub judge : Kept → Arrival → (number : ℕ) → Outcome (Unit {0})
  pub after : Kept → Arrival → (number : ℕ) → Kept

-- the expected number is one above the greatest opened, or 0 before any
pub record Counts {Kept Arrival : Type 0} (n : Numbering Kept Arrival) : Type 0 where
  pub starts : (a : Arrival) → n.expected_by n.start a ≡ 0
  pub grows : (k : Kept) (a : Arrival) (m : ℕ) → n.expected_by (n.after k a m) a ≡ max (n.expected_by k a) (m + 1)
  -- what is opened for one arrival moves what is expected of another no further than that, and never back
  pub never_back : (k : Kept) (a b : Arrival) (m : ℕ) → n.expected_by k a ≤ n.expected_by (n.after k b m) a
  pub never-beyond : (k : Kept) (a b : Arrival) (m : ℕ) → n.expected_by (n.after k b m) a ≤ max (n.expected_by k a) (m + 1)

-- the expected number alone, whatever arrives; no number is judged out, and so a repeated packet opens again
abbrev pub expected_only : {Arrival : Type 0} → Numbering ℕ Arrival
expected_only = record {
  start = 0;
  expected_by = λ e a. e;
  judge = λ e a m. given tt;
  after = λ e a m. max e (m + 1);
}

-- ---- the opening
-- what comes of what was opened: its number, what the receiver holds then, and what is put at the start of the buffer lent for the arrival
pub record Effects (Holding Arrival Opened : Type 0) : Type 0 where
  pub number_of : Opened → ℕ
  pub moved : Holding → Arrival → Opened → Holding
  pub lent : Arrival → List ℕ
  pub written : Opened → List ℕ

-- an arrival is opened by what the receiver holds, its keys first of all, and by the number expected
pub record Opening (Holding Arrival Opened : Type 0) : Type 0 where
  pub opened : Holding → (expected : ℕ) → Arrival → Outcome Opened
  pub effects : Effects Holding Arrival Opened

-- ---- the receiver
pub record Standing (Holding Kept : Type 0) : Type 0 where
  pub holding : Holding
  pub kept : Kept

-- the outcome of an arrival, what its buffer holds then, and the number expected then
pub record Yield (Opened : Type 0) : Type 0 where
  pub outcome : Outcome Opened
  pub buffer : List ℕ
  pub expected : ℕ

-- what an outcome leaves: refused, all as it was
module _ {Holding Kept Arrival Opened : Type 0} (f : Effects Holding Arrival Opened) (n : Numbering Kept Arrival) where
  abbrev pub standing_after : Standing Holding Kept → Arrival → Outcome Opened → Standing Holding Kept
  standing_after s a (refused why) = s
  standing_after s a (given x) = record { holding = f.moved s.holding a x; kept = n.after s.kept a (f.number_of x) }

  abbrev pub yielded : Standing Holding Kept → Arrival → Outcome Opened → Yield Opened
  yielded s a r = record {
    outcome = r;
    buffer = placed (r >>= λ x. given (f.written x)) (f.lent a);
    expected = n.expected_by (standing_after s a r).kept a;
  }

module _ {Holding Kept Arrival Opened : Type 0} (o : Opening Holding Arrival Opened) (n : Numbering Kept Arrival) where
  -- first opened, then judged by its number
  abbrev pub outcome : Standing Holding Kept → Arrival → Outcome Opened
  outcome s a = do
    x ← o.opened s.holding (n.expected_by s.kept a) a
    n.judge s.kept a (o.effects.number_of x)
    given x

  abbrev pub receiver : Receiver (Standing Holding Kept) Arrival (Yield Opened)
  receiver = record {
    answer = λ s a. yielded o.effects n s a (outcome s a);
    next = λ s a. standing_after o.effects n s a (outcome s a);
  }

  -- fair or not: what is given was opened and passed; a refusal of either kind leaves buffer, expected number and state as they were
  pub record WhateverArrives (s : Standing Holding Kept) (a : Arrival) : Type 0 where
    pub given-passed : (y : Opened) → outcome s a ≡ given y
        → (o.opened s.holding (n.expected_by s.kept a) a ≡ given y) × (n.judge s.kept a (o.effects.number_of y) ≡ given tt)
    pub refused-untouched : (why : ℕ) → outcome s a ≡ refused why
        → receiver.answer s a ≡ record { outcome = refused why; buffer = o.effects.lent a; expected = n.expected_by s.kept a }
    pub refused-unmoved : (why : ℕ) → outcome s a ≡ refused why → receiver.next s a ≡ s

-- ---- what is promised
-- for each thing that may be sent: how it arrives, whether it is rubbish, and the outcome owed for it by a receiver that holds something
pub record Sending (Holding Arrival Opened Sent : Type 0) : Type 0 where
  pub arrival : Sent → Arrival
  pub is_rubbish : Sent → Bool
  pub owes : Holding → Sent → Outcome Opened

module _ {Holding Kept Arrival Opened Sent : Type 0} (f : Effects Holding Arrival Opened) (n : Numbering Kept Arrival)
    (w : Sending Holding Arrival Opened Sent) where
  -- the outcome owed, and what it leaves
  abbrev pub promise : Promise (Standing Holding Kept) Arrival (Yield Opened) Sent
  promise = record {
    arrival = w.arrival;
    is_rubbish = w.is_rubbish;
    owed = λ s c. yielded f n s (w.arrival c) (w.owes s.holding c);
    behind = λ s c. standing_after f n s (w.arrival c) (w.owes s.holding c);
  }

abbrev pub is_refused : {A : Type 0} → Outcome A → Bool
is_refused (refused why) = true
is_refused (given x) = false

module _ {Holding Kept Arrival Opened Sent : Type 0} (o : Opening Holding Arrival Opened) (n : Numbering Kept Arrival)
    (w : Sending Holding Arrival Opened Sent) where
  -- opened as x, not judged out, and its number below the top
  pub record ComesOut (top : ℕ) (s : Standing Holding Kept) (c : Sent) (x : Opened) : Type 0 where
    pub opens : o.opened s.holding (n.expected_by s.kept (w.arrival c)) (w.arrival c) ≡ given x
    pub passes : n.judge s.kept (w.arrival c) (o.effects.number_of x) ≡ given tt
    pub in-range : o.effects.number_of x < top

  -- what a good packet is, is the opening's own matter
  module _ (Good : Standing Holding Kept → Sent → Type 0) where
    -- what is owed a refusal is refused when it comes, and what is owed an opening is good when it comes
    abbrev pub FairAs : Standing Holding Kept → Sent → Outcome Opened → Type 0
    FairAs s c (refused why) = outcome o n s (w.arrival c) ≡ refused why
    FairAs s c (given x) = Good s c

    -- what is expected lies up to the top
    abbrev pub terms : (top : ℕ) → Terms (Standing Holding Kept) Sent
    terms top = record {
      Right = λ s. (a : Arrival) → n.expected_by s.kept a ≤ top;
      FairOne = λ s c. FairAs s c (w.owes s.holding c);
    }

    -- what is to be shown of the parts
    pub record Lawful (top : ℕ) : Type 0 where
      pub good-comes-out : (s : Standing Holding Kept) (c : Sent) (x : Opened) → (terms top).Right s → w.owes s.holding c ≡ given x → Good s c
          → ComesOut top s c x
      -- rubbish is what is owed a refusal, whatever the receiver holds
      pub refuses-rubbish : (h : Holding) (c : Sent) → is_refused (w.owes h c) ≡ w.is_rubbish c
      pub counts : Counts n
