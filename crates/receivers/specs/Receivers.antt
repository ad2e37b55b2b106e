-- Demand 3 for any receiver: what it answers to a list of arrivals, what it promises for a list of things sent, and that it keeps the promise.
use Rattle.std.specs.Prelude.{ℕ, max, ◌≡◌, List, [], ◌∷◌, Bool, true, cond}

-- ---- the receiver
-- its answer to what arrives where it stands in a state, and where it stands then
pub record Receiver (State Arrival Answer : Type 0) : Type 0 where
  pub answer : State → Arrival → Answer
  pub next : State → Arrival → State

module _ {State Arrival Answer : Type 0} (r : Receiver State Arrival Answer) where
  -- one arrival after the other
  abbrev pub answers : State → List Arrival → List Answer
  answers s [] = []
  answers s (a ∷ later) = r.answer s a ∷ answers (r.next s a) later

  -- where it stands when all have come
  abbrev pub final : State → List Arrival → State
  final s [] = s
  final s (a ∷ later) = final (r.next s a) later

-- ---- what is promised
-- for each thing that may be sent: how it arrives, whether it is rubbish, the answer owed for it, and where the receiver is to stand behind it
pub record Promise (State Arrival Answer Sent : Type 0) : Type 0 where
  pub arrival : Sent → Arrival
  pub is_rubbish : Sent → Bool
  pub owed : State → Sent → Answer
  pub behind : State → Sent → State

-- on which terms: what holds of the receiver's state all along, and what may be sent to it where it stands in a state
pub record Terms (State Sent : Type 0) : Type 1 where
  pub Right : State → Type 0
  pub FairOne : State → Sent → Type 0

module _ {State Arrival Answer Sent : Type 0} (p : Promise State Arrival Answer Sent) where
  abbrev pub arrivals : List Sent → List Arrival
  arrivals [] = []
  arrivals (c ∷ cs) = p.arrival c ∷ arrivals cs

  -- each is fair where those before it leave the receiver
  abbrev pub Fair : (FairOne : State → Sent → Type 0) → State → List Sent → Type 0
  Fair FairOne s [] = Unit {0}
  Fair FairOne s (c ∷ cs) = FairOne s c × Fair FairOne (p.behind s c) cs

  abbrev pub all_owed : State → List Sent → List Answer
  all_owed s [] = []
  all_owed s (c ∷ cs) = p.owed s c ∷ all_owed (p.behind s c) cs

  abbrev pub behind_all : State → List Sent → State
  behind_all s [] = s
  behind_all s (c ∷ cs) = behind_all (p.behind s c) cs

  -- without the rubbish: the packets, and their answers among all
  abbrev pub packets : List Sent → List Sent
  packets [] = []
  packets (c ∷ cs) = cond (p.is_rubbish c) (packets cs) (c ∷ packets cs)

  abbrev pub of_packets : List Sent → List Answer → List Answer
  of_packets [] ys = []
  of_packets (c ∷ cs) [] = []
  of_packets (c ∷ cs) (y ∷ ys) = cond (p.is_rubbish c) (of_packets cs ys) (y ∷ of_packets cs ys)

-- the furthest that any of them reaches, and 0 where there is none
abbrev pub furthest : {Sent : Type 0} → (reach : Sent → ℕ) → List Sent → ℕ
furthest reach [] = 0
furthest reach (c ∷ cs) = max (reach c) (furthest reach cs)

-- ---- the theorem
module _ {State Arrival Answer Sent : Type 0} (r : Receiver State Arrival Answer) (p : Promise State Arrival Answer Sent) where
  pub record Received (s : State) (cs : List Sent) : Type 0 where
    -- each answer is the one owed
    pub each : answers r s (arrivals p cs) ≡ all_owed p s cs
    -- the rubbish disturbs no packet
    pub undisturbed : of_packets p cs (answers r s (arrivals p cs)) ≡ answers r s (arrivals p (packets p cs))
    -- the receiver stands where it is to stand
    pub last : final r s (arrivals p cs) ≡ behind_all p s cs

  module _ (t : Terms State Sent) where
    -- what is to be shown of a receiver, all of it about one arrival
    pub record Keeps : Type 0 where
      pub answers-as-owed : (s : State) (c : Sent) → t.Right s → t.FairOne s c → r.answer s (p.arrival c) ≡ p.owed s c
      pub moves-as-owed : (s : State) (c : Sent) → t.Right s → t.FairOne s c → r.next s (p.arrival c) ≡ p.behind s c
      pub stays-right : (s : State) (c : Sent) → t.Right s → t.FairOne s c → t.Right (p.behind s c)
      pub rubbish-moves-nothing : (s : State) (c : Sent) → p.is_rubbish c ≡ true → p.behind s c ≡ s

    -- what holds then, of every fair list
    abbrev pub Demand3 : Type 0
    Demand3 = (s : State) (cs : List Sent) → t.Right s → Fair p t.FairOne s cs → Received s cs
