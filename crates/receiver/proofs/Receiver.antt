-- Demand 3: the parts of this receiver are lawful, and so it keeps its promise as any receiver of such parts does.
use Prim.Native.Nat.{ℕ, ◌≤◌, ◌<◌, max}
use mathlib.Core.Path.{◌≡◌, refl, ap, ◌∙◌}
use mathlib.Core.List.{List}
use native.Mathlib.Omega.{arith}
use lib.ListN.{length}
use Rattle.octets.specs.Outcome.{Outcome, refused, given}
use Rattle.octets.proofs.Outcome.{apart, given-same}
use Rattle.receivers.specs.Receivers as Receivers
use Rattle.receivers.specs.Openings as Openings
use Rattle.receivers.specs.Openings.{expected_only, Standing, is_refused, FairAs, terms, Lawful}
use Rattle.receivers.proofs.Receivers.{fair-too, reached}
use Rattle.receivers.proofs.Openings.{expected-counts, outcome-alone, lawful-receives}
use Rattle.numbers.specs.Numbers.{numbers}
use Rattle.protection.specs.Suite.{Suite, Laws}
use Rattle.protection.specs.Protection.{Keys}
use Rattle.header_forms.specs.Rules.{in_force}
use Rattle.header_forms.proofs.Rules.{in-force-readable}
use Rattle.protection.specs.Clear.{Opened}
use Rattle.protection.specs.AesGcm.{aes_gcm}
use Rattle.packets.specs.Packet.{opened}
use Rattle.packets.proofs.Sealing.{sealing}
use Rattle.packets.proofs.OpenedBack.{opened-back}
use Rattle.protection.proofs.AesGcmLaws.{aes-gcm-laws}
use Rattle.receiver.specs.Receiver.{Arrival, effects, standing, opening, Sent, rubbish, parcel, Coming, datagram_of, arrival, is_rubbish, FairOne, answer_owed, sending, promise, expected_behind, yielded, OneStep, Demand3At, Demand3}

-- ---- one step
module _ (keys : Keys) (e : ℕ) where
  same-yield : (a : Arrival) (o : Outcome Opened) → Openings.yielded effects expected_only (standing keys e) a o ≡ yielded e a.buffer o
  same-yield a (refused n) = refl
  same-yield a (given x) = refl

  behind-sent : (sent : Sent) (buffer : List ℕ)
      → promise.behind (standing keys e) (record { sent = sent; buffer = buffer }) ≡ standing keys (expected_behind e sent)
  behind-sent (rubbish d n) buffer = refl
  behind-sent (parcel p) buffer = refl

  pub one-step : (suite : Suite) → OneStep suite keys e
  one-step suite = record {
    yields-one = λ a.
        ap (Openings.yielded effects expected_only (standing keys e) a) (outcome-alone (opening suite) (standing keys e) a)
        ∙ same-yield a ((opening suite).opened keys e a);
    owes-one = λ c. same-yield (arrival c) (answer_owed keys c.sent);
    expects-behind = λ c. behind-sent c.sent c.buffer;
  }

-- the number expected in the end is reached step by step
larger-behind : (e : ℕ) (sent : Sent) → expected_behind e sent ≡ max e (expected_behind 0 sent)
larger-behind e (rubbish d n) = omega arith
larger-behind e (parcel p) = omega arith

reaches : (s : Standing Keys ℕ) (c : Coming) → (promise.behind s c).kept ≡ max s.kept (expected_behind 0 c.sent)
reaches s c = ap (λ (z : Standing Keys ℕ). z.kept) (behind-sent s.holding s.kept c.sent c.buffer) ∙ larger-behind s.kept c.sent

-- ---- the parts are lawful
pub refuses-rubbish : (keys : Keys) (sent : Sent) → is_refused (answer_owed keys sent) ≡ is_rubbish sent
refuses-rubbish keys (rubbish d n) = refl
refuses-rubbish keys (parcel p) = refl

module _ (suite : Suite) where
  abbrev FairComing : Standing Keys ℕ → Coming → Type 0
  FairComing s c = FairOne suite s.holding s.kept c.sent c.buffer

  -- a good packet was sealed by the rules, and is opened back; its number is in range
  pub good-opens : Laws suite → (keys : Keys) (e : ℕ) (sent : Sent) (buffer : List ℕ) (x : Opened) → e ≤ numbers → answer_owed keys sent ≡ given x
      → FairOne suite keys e sent buffer
      → (opened suite in_force keys e (datagram_of sent) (length buffer) ≡ given x) × (x.packet_number < numbers)
  good-opens laws keys e (rubbish d n) buffer x top owes f = absurd (apart owes)
  good-opens laws keys e (parcel p) buffer x top owes f =
      let made = sealing suite in_force keys p.acknowledged p.plain p.room p.packet f.made in (
        opened-back suite laws in_force in-force-readable keys p.plain p.packet made p.behind f.fits e (length buffer) top f.near f.enough ∙ owes,
        omega (arith, made.small, ap (λ (y : Opened). y.packet_number) (given-same owes)),
      )

  lawful : Laws suite → Lawful (opening suite) expected_only sending FairComing numbers
  lawful laws = record {
    good-comes-out = λ s c x right owes f.
        let out = good-opens laws s.holding s.kept c.sent c.buffer x (right (arrival c)) owes f in
        record { opens = out.0; passes = refl; in-range = out.1 };
    refuses-rubbish = λ keys c. refuses-rubbish keys c.sent;
    counts = expected-counts;
  }

  -- what opening refuses, the receiver refuses
  fair-coming : (keys : Keys) (e : ℕ) (sent : Sent) (buffer : List ℕ) → FairOne suite keys e sent buffer
      → FairAs (opening suite) expected_only sending FairComing (standing keys e) (record { sent = sent; buffer = buffer }) (answer_owed keys sent)
  fair-coming keys e (rubbish d n) buffer f = outcome-alone (opening suite) (standing keys e) (record { datagram = d; buffer = buffer }) ∙ f
  fair-coming keys e (parcel p) buffer f = f

  abbrev FairToAny : Standing Keys ℕ → Coming → Type 0
  FairToAny = (terms (opening suite) expected_only sending FairComing numbers).FairOne

  fair-list : (s : Standing Keys ℕ) (cs : List Coming) → Receivers.Fair promise FairComing s cs → Receivers.Fair promise FairToAny s cs
  fair-list = fair-too promise FairComing FairToAny (λ s c f. fair-coming s.holding s.kept c.sent c.buffer f)

-- ---- the theorem
pub demand3 : Demand3
demand3 suite laws keys e cs top fair =
    let s = standing keys e in
    let r = lawful-receives (opening suite) expected_only sending (FairComing suite) numbers (lawful suite laws) s cs (λ a. top) (fair-list suite s cs fair) in
    record {
      each = r.each;
      undisturbed = r.undisturbed;
      last = ap (λ (z : Standing Keys ℕ). z.kept) r.last ∙ reached promise (λ z. z.kept) (λ c. expected_behind 0 c.sent) reaches s cs;
    }

-- at the suite that the code uses
pub demand3-aes-gcm : Demand3At aes_gcm
demand3-aes-gcm = demand3 aes_gcm aes-gcm-laws
