-- Demand 3 at all levels at once: each packet is opened back by the keys of its level, and the number spaces count each for itself.
use mathlib.Core.Path.{refl}
use Rattle.receivers.specs.Openings.{expected_only, Lawful}
use Rattle.receivers.proofs.Openings.{expected-counts, lawful-receives}
use Rattle.receivers.proofs.Spaces.{spaces-apart}
use Rattle.numbers.specs.Numbers.{numbers}
use Rattle.protection.specs.Suite.{Suite, Laws}
use Rattle.receiver.specs.Levels.{LeveledArrival, space_of, numbering, opening, sending, GoodHere, AllLevels}
use Rattle.receiver.proofs.Receiver.{good-opens, refuses-rubbish}

lawful : (suite : Suite) → Laws suite → Lawful (opening suite) numbering sending (GoodHere suite) numbers
lawful suite laws = record {
  good-comes-out = λ s c x right owes good.
      let out = good-opens suite laws (s.holding c.level) _ c.coming.sent c.coming.buffer x (right (sending.arrival c)) owes good in
      record { opens = out.0; passes = refl; in-range = out.1 };
  refuses-rubbish = λ ring c. refuses-rubbish (ring c.level) c.coming.sent;
  counts = (spaces-apart (λ (a : LeveledArrival). space_of a.level) expected_only).counted expected-counts;
}

pub all-levels : AllLevels
all-levels suite laws = lawful-receives (opening suite) numbering sending (GoodHere suite) numbers (lawful suite laws)
