-- Demand 3 at all levels at once: packets of every level in one list, each opened with the keys of its level, and numbers expected in each
-- number space (RFC 9000 section 12.3). Demand 3 of one level alone is that of Receiver.antt, with keys of that level.
use Rattle.std.specs.Prelude.{ℕ, cond, eqb, length}
use Rattle.receivers.specs.Receivers as Receivers
use Rattle.receivers.specs.Receivers.{Receiver, Promise, Terms}
use Rattle.receivers.specs.Openings as Openings
use Rattle.receivers.specs.Openings.{Numbering, expected_only, Effects, Opening, Standing, Sending}
use Rattle.receivers.specs.Spaces as Spaces
use Rattle.receivers.specs.Spaces.{Space, Each, at, in_each_space}
use Rattle.numbers.specs.Numbers.{numbers}
use Rattle.versions.specs.Levels.{initial, handshake}
use Rattle.header_forms.specs.Rules.{in_force}
use Rattle.protection.specs.Suite.{Suite, Laws}
use Rattle.protection.specs.Protection.{Keys}
use Rattle.protection.specs.Clear.{Opened}
use Rattle.packets.specs.Packet.{opened}
use Rattle.packets.specs.Effects.{written}
use Rattle.receiver.specs.Receiver.{Yield, Coming, Arrival, is_rubbish, FairOne, answer_owed}
use Rattle.receiver.specs.Receiver as One

-- ---- the receiver
-- keys for each level
abbrev pub Ring : Type 0
Ring = (level : ℕ) → Keys

-- an arrival, and the level whose keys are to open it
pub record LeveledArrival : Type 0 where
  pub level : ℕ
  pub arrival : Arrival

-- Initial and Handshake packets have numbers of their own
abbrev pub space_of : (level : ℕ) → Space
space_of level = cond (eqb level initial) Spaces.initial (cond (eqb level handshake) Spaces.handshake Spaces.application)

abbrev pub numbering : Numbering (Each ℕ) LeveledArrival
numbering = in_each_space (λ a. space_of a.level) expected_only

abbrev pub effects : Effects Ring LeveledArrival Opened
effects = record {
  number_of = λ x. x.packet_number;
  moved = λ ring a x. ring;
  lent = λ a. a.arrival.buffer;
  written = written;
}

module _ (suite : Suite) where
  abbrev pub opening : Opening Ring LeveledArrival Opened
  opening = record {
    opened = λ ring e a. opened suite in_force (ring a.level) e a.arrival.datagram (length a.arrival.buffer);
    effects = effects;
  }

  abbrev pub receiver : Receiver (Standing Ring (Each ℕ)) LeveledArrival Yield
  receiver = Openings.receiver opening numbering

-- ---- what may come, and what is owed for it
pub record LeveledComing : Type 0 where
  pub level : ℕ
  pub coming : Coming

abbrev pub sending : Sending Ring LeveledArrival Opened LeveledComing
sending = record {
  arrival = λ c. record { level = c.level; arrival = One.arrival c.coming };
  is_rubbish = λ c. is_rubbish c.coming.sent;
  owes = λ ring c. answer_owed (ring c.level) c.coming.sent;
}

abbrev pub promise : Promise (Standing Ring (Each ℕ)) LeveledArrival Yield LeveledComing
promise = Openings.promise effects numbering sending

-- a packet is good by the keys of its level and the number expected in its space
abbrev pub GoodHere : Suite → Standing Ring (Each ℕ) → LeveledComing → Type 0
GoodHere suite s c = FairOne suite (s.holding c.level) (at (space_of c.level) s.kept) c.coming.sent c.coming.buffer

abbrev pub terms : Suite → Terms (Standing Ring (Each ℕ)) LeveledComing
terms suite = Openings.terms (opening suite) numbering sending (GoodHere suite) numbers

-- ---- the theorem: every list that is fair when it comes is answered as it is owed, and no rubbish disturbs a packet of any level
abbrev pub AllLevels : Type 0
AllLevels = (suite : Suite) → Laws suite → Receivers.Demand3 (receiver suite) promise (terms suite)
