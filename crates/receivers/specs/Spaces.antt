-- The number spaces (RFC 9000 section 12.3): each has numbers of its own, and a numbering is kept for each.
use Rattle.std.specs.Prelude.{ℕ, ◌≡◌}
use Rattle.receivers.specs.Openings.{Numbering, Counts}

-- 0-RTT and 1-RTT packets share the last
pub data Space : Type 0 where
  initial : Space
  handshake : Space
  application : Space

pub record Each (A : Type 0) : Type 0 where
  pub of_initial : A
  pub of_handshake : A
  pub of_application : A

abbrev pub in_all : {A : Type 0} → A → Each A
in_all x = record { of_initial = x; of_handshake = x; of_application = x }

abbrev pub at : {A : Type 0} → Space → Each A → A
at initial ks = ks.of_initial
at handshake ks = ks.of_handshake
at application ks = ks.of_application

abbrev pub put : {A : Type 0} → Space → A → Each A → Each A
put initial x ks = record { of_initial = x; of_handshake = ks.of_handshake; of_application = ks.of_application }
put handshake x ks = record { of_initial = ks.of_initial; of_handshake = x; of_application = ks.of_application }
put application x ks = record { of_initial = ks.of_initial; of_handshake = ks.of_handshake; of_application = x }

module _ {Kept Arrival : Type 0} (space_of : Arrival → Space) (n : Numbering Kept Arrival) where
  -- an arrival is judged and kept in its own space
  abbrev pub in_each_space : Numbering (Each Kept) Arrival
  in_each_space = record {
    start = in_all n.start;
    expected_by = λ ks a. n.expected_by (at (space_of a) ks) a;
    judge = λ ks a m. n.judge (at (space_of a) ks) a m;
    after = λ ks a m. put (space_of a) (n.after (at (space_of a) ks) a m) ks;
  }

  pub record SpacesApart : Type 0 where
    -- it counts in each space, where it counts in one
    pub counted : Counts n → Counts in_each_space
    -- what is opened in one space leaves the others as they were
    pub apart : (ks : Each Kept) (a : Arrival) (m : ℕ) (other : Space) → (other ≡ space_of a → ⊥) → at other (in_each_space.after ks a m) ≡ at other ks
