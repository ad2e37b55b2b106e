-- Demand 3: a receiver, the datagrams that come to it, and what it yields. Crate `receivers` says of any receiver how it goes through a list.
use Rattle.std.specs.Prelude.{ℕ, ◌+◌, ◌≤◌, max, ◌≡◌, List, ◌++◌, Bool, true, false, length}
use Rattle.octets.specs.Outcome.{Outcome, refused, given}
use Rattle.octets.specs.Octets.{placed}
use Rattle.receivers.specs.Receivers as Receivers
use Rattle.receivers.specs.Receivers.{Receiver, answers, final, Promise, all_owed, of_packets, furthest}
use Rattle.receivers.specs.Openings as Openings
use Rattle.receivers.specs.Openings.{expected_only, Effects, Opening, Standing, Sending}
use Rattle.numbers_shortening.specs.Shortening.{Acknowledged}
use Rattle.numbers.specs.Numbers.{numbers}
use Rattle.numbers_recovery.specs.Recovery.{Near}
use Rattle.header_forms.specs.Rules.{in_force}
use Rattle.header_fields.specs.Fields.{tag_length}
use Rattle.header_writing.specs.Written.{Plain}
use Rattle.protection.specs.Suite.{Suite, Laws}
use Rattle.protection.specs.Protection.{Keys}
use Rattle.protection.specs.Clear.{Opened}
use Rattle.packets.specs.Packet.{sealed, opened}
use Rattle.packets.specs.Effects.{written, output, after, what_was_sealed}

-- ---- the receiver
-- a datagram as it comes, and the buffer lent for it
pub record Arrival : Type 0 where
  pub datagram : List ℕ
  pub buffer : List ℕ

-- the answer to an arrival, what the buffer holds then, and the number expected then
abbrev pub Yield : Type 0
Yield = Openings.Yield Opened

-- an opened packet leaves the keys as they are, and its plain header and payload in the lent buffer
abbrev pub effects : Effects Keys Arrival Opened
effects = record {
  number_of = λ x. x.packet_number;
  moved = λ keys a x. keys;
  lent = λ a. a.buffer;
  written = written;
}

-- it holds the keys, and expects e
abbrev pub standing : Keys → (e : ℕ) → Standing Keys ℕ
standing keys e = record { holding = keys; kept = e }

module _ (suite : Suite) where
  abbrev pub opening : Opening Keys Arrival Opened
  opening = record { opened = λ keys e a. opened suite in_force keys e a.datagram (length a.buffer); effects = effects }

  -- of the numbers it keeps the expected one alone
  abbrev pub receiver : Receiver (Standing Keys ℕ) Arrival Yield
  receiver = Openings.receiver opening expected_only

module _ (suite : Suite) (keys : Keys) where
  -- one arrival, where e is expected
  abbrev pub yield : (e : ℕ) → Arrival → Yield
  yield e a = (receiver suite).answer (standing keys e) a

  -- one arrival after the other
  abbrev pub yields : (e : ℕ) → List Arrival → List Yield
  yields e coming = answers (receiver suite) (standing keys e) coming

  -- the number expected when all have come
  abbrev pub expected_after : (e : ℕ) → List Arrival → ℕ
  expected_after e coming = (final (receiver suite) (standing keys e) coming).kept

-- ---- what may come
-- a packet that a sender made for a plain one, and what stands behind it in its datagram
pub record Parcel : Type 0 where
  pub plain : Plain
  pub acknowledged : Acknowledged
  pub room : ℕ
  pub packet : List ℕ
  pub behind : List ℕ

-- rubbish, which is refused by the number, or a packet
pub data Sent : Type 0 where
  rubbish : (datagram : List ℕ) (refusal : ℕ) → Sent
  parcel : Parcel → Sent

-- one of them, and the buffer lent for it
pub record Coming : Type 0 where
  pub sent : Sent
  pub buffer : List ℕ

abbrev pub datagram_of : Sent → List ℕ
datagram_of (rubbish d n) = d
datagram_of (parcel p) = p.packet ++ p.behind

abbrev pub arrival : Coming → Arrival
arrival c = record { datagram = datagram_of c.sent; buffer = c.buffer }

abbrev pub is_rubbish : Sent → Bool
is_rubbish (rubbish d n) = true
is_rubbish (parcel p) = false

module _ (suite : Suite) (keys : Keys) where
  -- the rules seal it, its datagram is no larger than any may be, the buffer has room for the answer, and the number is near the expected one
  pub record Good (e : ℕ) (p : Parcel) (buffer : List ℕ) : Type 0 where
    pub made : sealed suite in_force keys p.acknowledged p.plain p.room ≡ given p.packet
    pub fits : length (p.packet ++ p.behind) ≤ in_force.limit
    pub enough : length p.packet ≤ length buffer + tag_length
    pub near : Near e p.plain.packet_number p.plain.number_length

  -- refused when it comes, or good when it comes
  abbrev pub FairOne : (e : ℕ) → Sent → (buffer : List ℕ) → Type 0
  FairOne e (rubbish d n) buffer = (opening suite).opened keys e (record { datagram = d; buffer = buffer }) ≡ refused n
  FairOne e (parcel p) buffer = Good e p buffer

-- ---- what the receiver owes
-- for rubbish its refusal, for a packet all that was sealed
abbrev pub answer_owed : Keys → Sent → Outcome Opened
answer_owed keys (rubbish d n) = refused n
answer_owed keys (parcel p) = given (what_was_sealed in_force keys p.plain p.packet)

-- how each comes, and what is owed for it by a receiver that holds the keys
abbrev pub sending : Sending Keys Arrival Opened Coming
sending = record { arrival = arrival; is_rubbish = λ c. is_rubbish c.sent; owes = λ keys c. answer_owed keys c.sent }

-- that answer, the buffer and the expected number as it leaves them
abbrev pub promise : Promise (Standing Keys ℕ) Arrival Yield Coming
promise = Openings.promise effects expected_only sending

-- the number to expect behind it: one above the greatest number so far
abbrev pub expected_behind : (e : ℕ) → Sent → ℕ
expected_behind e (rubbish d n) = e
expected_behind e (parcel p) = max e (p.plain.packet_number + 1)

-- ---- one step, in the words of the contract of `open`
-- what an outcome leaves of the lent buffer and of the expected number
abbrev pub yielded : (e : ℕ) (buffer : List ℕ) → Outcome Opened → Yield
yielded e buffer o = record { outcome = o; buffer = placed (output o) buffer; expected = after e o }

pub record OneStep (suite : Suite) (keys : Keys) (e : ℕ) : Type 0 where
  pub yields-one : (a : Arrival) → yield suite keys e a ≡ yielded e a.buffer ((opening suite).opened keys e a)
  pub owes-one : (c : Coming) → promise.owed (standing keys e) c ≡ yielded e c.buffer (answer_owed keys c.sent)
  pub expects-behind : (c : Coming) → promise.behind (standing keys e) c ≡ standing keys (expected_behind e c.sent)

-- ---- lists
abbrev pub arrivals : List Coming → List Arrival
arrivals cs = Receivers.arrivals promise cs

-- each is fair where those before it leave the receiver
abbrev pub Fair : Suite → Keys → (e : ℕ) → List Coming → Type 0
Fair suite keys e cs = Receivers.Fair promise (λ s c. FairOne suite s.holding s.kept c.sent c.buffer) (standing keys e) cs

abbrev pub owed : Keys → (e : ℕ) → List Coming → List Yield
owed keys e cs = all_owed promise (standing keys e) cs

-- without the rubbish: the packets, and their yields among all
abbrev pub packets : List Coming → List Coming
packets cs = Receivers.packets promise cs

abbrev pub yields_of_packets : List Coming → List Yield → List Yield
yields_of_packets cs ys = of_packets promise cs ys

-- one above the greatest number among the packets, and 0 where there is none
abbrev pub ahead : List Coming → ℕ
ahead cs = furthest (λ c. expected_behind 0 c.sent) cs

-- ---- the theorem
module _ (suite : Suite) (keys : Keys) where
  pub record Received (e : ℕ) (cs : List Coming) : Type 0 where
    -- each packet's plain header, number, payload and length, its buffer holding header and payload and the rest as it was;
    -- each rubbish refused, its buffer and the expected number as before
    pub each : yields suite keys e (arrivals cs) ≡ owed keys e cs
    -- the rubbish disturbs no packet
    pub undisturbed : yields_of_packets cs (yields suite keys e (arrivals cs)) ≡ yields suite keys e (arrivals (packets cs))
    -- the larger of what was expected at first and one above the greatest number opened
    pub last : expected_after suite keys e (arrivals cs) ≡ max e (ahead cs)

-- for every key record, every number that may be expected and every fair list
abbrev pub Demand3At : Suite → Type 0
Demand3At suite = (keys : Keys) (e : ℕ) (cs : List Coming) → e ≤ numbers → Fair suite keys e cs → Received suite keys e cs

-- for every suite with its laws
abbrev pub Demand3 : Type 0
Demand3 = (suite : Suite) → Laws suite → Demand3At suite
