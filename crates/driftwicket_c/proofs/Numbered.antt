-- No refusal is numbered 0 (of keys: c_keys, KeysAnswered.antt), so that an answer of 0 says that something is given.
use Prim.Native.Nat.{ℕ, ◌+◌, ◌-◌, ◌/◌, ◌%◌, ◌^◌}
use mathlib.Core.Bool.{Bool, true, false, ◌&&◌, cond}
use mathlib.Core.List.{List, ◌∷◌, ◌++◌}
use lib.Dec.{leb, ltb, eqb, lit<}
use lib.ListN.{length, get_or, take, drop}
use Rattle.octets.specs.Outcome.{refused, given, ◌>>=◌}
use Rattle.octets.specs.Octets.{number, part, same}
use Rattle.integers.specs.Integer.{integer}
use Rattle.numbers.specs.Numbers.{numbers, window, half}
use Rattle.numbers_shortening.specs.Shortening.{Acknowledged, nothing, up_to, coverable, ahead, gap, smallest_length, shortened}
use Rattle.numbers_recovery.specs.Recovery.{decoded, recovered}
use Rattle.versions.specs.Levels.{initial, zero_rtt, handshake, has_token}
use Rattle.versions.specs.Versions.{Version, known, version, level_of}
use Rattle.header_fields.specs.Fields.{longest_id, least_length, tag_length, behind, id_at, integer_at, field_at, rest_at}
use Rattle.header_forms.specs.Rules.{Rules}
use Rattle.header_forms.specs.Forms.{Form, long_form, reserved_bits, formed}
use Rattle.header_long.specs.LongHeader as LongHeader
use Rattle.header_long.specs.LongHeader.{Judge, of_any_level, only_level, only_retry, version_of, long}
use Rattle.header_reading.specs.PacketHeader as PacketHeader
use Rattle.header_reading.specs.PacketHeader.{header, any_header}
use Rattle.header_writing.specs.Written.{writes, Plain}
use Rattle.protection.specs.Suite.{Suite}
use Rattle.protection.specs.Protection.{Keys, nonce, on_first, on_number}
use Rattle.protection.specs.Clear.{mask_of, Revealed, revealed, decrypted, unprotected}
use Rattle.packets.specs.Packet.{packet_of, sealed, of_keys, opened}
use Rattle.retry_tag.specs.Tag.{retry_tag, tagged}
use Rattle.retry_writing.specs.Written.{untagged, retry_written}
use Rattle.retry_checking.specs.Retry.{token_at, retries, retry_header, retry_checked}
use Rattle.c_forms.proofs.Numbered.{Numbered, some, numbered, test, tested, judged, stepped}

-- ---- integers and packet numbers
pub integer-numbered : (s : List ℕ) → Numbered (integer s)
unfolding integer
integer-numbered s = tested 3 (leb 1 (length s)) (lit< tt) (tested 3 (leb (2 ^ (get_or s 0 0 / 64)) (length s)) (lit< tt) some)

coverable-numbered : (g : ℕ) → Numbered (coverable g)
unfolding coverable
coverable-numbered g = tested 14 (ltb g (half 4)) (lit< tt) some

ahead-numbered : (m : ℕ) (a : Acknowledged) → Numbered (ahead m a)
unfolding ahead
ahead-numbered m nothing = coverable-numbered (m + 1)
ahead-numbered m (up_to a) = tested 14 (ltb a m) (lit< tt) (coverable-numbered (m - a))

gap-numbered : (m : ℕ) (a : Acknowledged) → Numbered (gap m a)
unfolding gap
gap-numbered m a = tested 10 (ltb m numbers) (lit< tt) (ahead-numbered m a)

pub smallest-length-numbered : (m : ℕ) (a : Acknowledged) → Numbered (smallest_length m a)
unfolding smallest_length
smallest-length-numbered m a = stepped (gap m a) (gap-numbered m a) (λ g. some)

pub shortened-numbered : (m : ℕ) (a : Acknowledged) (n : ℕ) → Numbered (shortened m a n)
unfolding shortened
shortened-numbered m a n =
    stepped (gap m a) (gap-numbered m a) (λ g. tested 12 (leb 1 n && leb n 4) (lit< tt) (tested 12 (ltb g (half n)) (lit< tt) some))

pub recovered-numbered : (e t n : ℕ) → Numbered (recovered e t n)
unfolding recovered
recovered-numbered e t n =
    tested 10 (leb e numbers) (lit< tt)
    (tested 12 (leb 1 n && leb n 4) (lit< tt)
    (tested 12 (ltb t (window n)) (lit< tt)
    (tested 10 (ltb (decoded e t n) numbers) (lit< tt) some)))

-- ---- headers
pub formed-numbered : (rules : Rules) (form : Form) (d : List ℕ) → Numbered (formed rules form d)
unfolding formed
formed-numbered rules form d =
    tested 1 (leb 1 (length d) && leb (length d) rules.limit) (lit< tt) (test 2 (eqb (get_or d 0 0 / 64) form.top_bits) (lit< tt))

-- whoever reads, if what it makes of types has numbers for its refusals
abbrev Judging : {A : Type 0} → Judge A → Type 0
Judging judge = (row : Version) (type : ℕ) → Numbered (judge.kind row type)

level-numbered : (row : Version) (type : ℕ) → Numbered (level_of row type)
unfolding level_of
level-numbered row type = by (eqb type row.initial_type) (eqb type row.zero_rtt_type) (eqb type row.handshake_type)
  where
    by : (a b c : Bool) → Numbered (cond a (given initial) (cond b (given zero_rtt) (cond c (given handshake) (refused 6))))
    by true b c = some
    by false true c = some
    by false false true = some
    by false false false = numbered 6 (lit< tt)

only-level-numbered : (level : ℕ) (row : Version) (type : ℕ) → Numbered (only_level level row type)
unfolding only_level
only-level-numbered level row type = stepped (level_of row type) (level-numbered row type) (λ l. tested 6 (eqb l level) (lit< tt) some)

only-retry-numbered : (row : Version) (type : ℕ) → Numbered (only_retry row type)
unfolding only_retry
only-retry-numbered row type = tested 6 (eqb type row.retry_type) (lit< tt) some

module _ (d : List ℕ) where
  version-numbered : Numbered (version_of d)
  unfolding version_of
  version-numbered = tested 3 (leb (1 + 4) (length d)) (lit< tt) some

  judged-numbered : {A : Type 0} (judge : Judge A) → Judging judge → Numbered (LongHeader.judged judge d)
  unfolding LongHeader.judged
  judged-numbered judge judging =
      stepped (version_of d) version-numbered
      (λ v. tested 4 (known v && judge.takes v) (lit< tt)
      (stepped (judge.kind (version v) (get_or d 0 0 / 16 % 4)) (judging (version v) (get_or d 0 0 / 16 % 4)) (λ kind. some)))

  id-numbered : (at : ℕ) → Numbered (id_at d at)
  unfolding id_at
  id-numbered at =
      tested 3 (leb (at + 1) (length d)) (lit< tt)
      (tested 5 (leb (get_or d at 0) longest_id) (lit< tt) (tested 3 (leb (at + 1 + get_or d at 0) (length d)) (lit< tt) some))

  long-numbered : {A : Type 0} (judge : Judge A) → Judging judge → Numbered (long judge d)
  unfolding long
  long-numbered judge judging =
      stepped (LongHeader.judged judge d) (judged-numbered judge judging)
      (λ j. stepped (id_at d 5) (id-numbered 5) (λ destination. stepped (id_at d (behind destination)) (id-numbered (behind destination)) (λ source. some)))

  integer-at-numbered : (at : ℕ) → Numbered (integer_at d at)
  unfolding integer_at
  integer-at-numbered at = stepped (integer (drop at d)) (integer-numbered (drop at d)) (λ i. some)

  field-numbered : (at : ℕ) → Numbered (field_at d at)
  unfolding field_at
  field-numbered at =
      stepped (integer_at d at) (integer-at-numbered at) (λ field. tested 3 (leb (field.at + field.len) (length d)) (lit< tt) some)

  rest-numbered : (at : ℕ) → Numbered (rest_at d at)
  unfolding rest_at
  rest-numbered at =
      stepped (integer_at d at) (integer-at-numbered at)
      (λ rest. tested 7 (leb least_length rest.len) (lit< tt) (tested 3 (leb (rest.at + rest.len) (length d)) (lit< tt) some))

  token-at-numbered : (level at : ℕ) → Numbered (PacketHeader.token_at level d at)
  unfolding PacketHeader.token_at
  token-at-numbered level at = by (has_token level)
    where
      by : (has : Bool) → Numbered {A = PacketHeader.Token} (cond has (field_at d at >>= λ f. given (record { place = f; end = behind f })) (given (record { place = record { at = 0; len = 0 }; end = at })))
      by true = stepped (field_at d at) (field-numbered at) (λ f. some)
      by false = some

  header-numbered : (judge : Judge ℕ) → Judging judge → Numbered (header judge d)
  unfolding header
  header-numbered judge judging =
      stepped (long judge d) (long-numbered judge judging)
      (λ l. stepped (PacketHeader.token_at l.kind d (behind l.source)) (token-at-numbered l.kind (behind l.source))
      (λ token. stepped (rest_at d token.end) (rest-numbered token.end) (λ rest. some)))

pub any-header-numbered : (rules : Rules) (d : List ℕ) → Numbered (any_header rules d)
unfolding any_header
any-header-numbered rules d =
    judged (formed rules long_form d) (formed-numbered rules long_form d)
    (header-numbered d (of_any_level (λ v. true)) level-numbered)

-- ---- sealing and opening
module _ (suite : Suite) (rules : Rules) (k : Keys) where
  pub sealed-numbered : (a : Acknowledged) (p : Plain) (room : ℕ) → Numbered (sealed suite rules k a p room)
  unfolding sealed
  sealed-numbered a p room =
      tested 4 (known k.version) (lit< tt)
      (tested 6 (writes p.token k.level) (lit< tt)
      (stepped (shortened p.packet_number a p.number_length) (shortened-numbered p.packet_number a p.number_length)
      (λ short. tested 5 (leb (length p.destination) longest_id && leb (length p.source) longest_id) (lit< tt)
      (tested 7 (leb 4 (p.number_length + length p.payload)) (lit< tt)
      (tested 1 (leb (length (packet_of suite rules k p)) rules.limit) (lit< tt)
      (tested 8 (leb (length (packet_of suite rules k p)) room) (lit< tt) some))))))

  revealed-numbered : (form : Form) (e : ℕ) (packet : List ℕ) (at : ℕ) → Numbered (revealed suite form k.hp e packet at)
  unfolding revealed
  revealed-numbered form e packet at =
      let mask = mask_of suite k.hp packet at in
      let first = on_first form mask (get_or packet 0 0) in
      let n = first % 4 + 1 in
      tested 9 (eqb (reserved_bits form first) 0) (lit< tt) (tested 10 (ltb (decoded e (number (on_number mask (part packet at n))) n) numbers) (lit< tt) some)

  decrypted-numbered : (packet : List ℕ) (at : ℕ) (r : Revealed) → Numbered (decrypted suite k.key k.iv packet at r)
  unfolding decrypted
  decrypted-numbered packet at r =
      let body = drop (at + r.number_length) packet in
      let plain : List ℕ = r.first ∷ part packet 1 (at - 1) ++ r.short in
      tested 11 (same (drop (length body - tag_length) body) (suite.tag k.key (nonce k.iv r.packet_number) plain (take (length body - tag_length) body))) (lit< tt)
      some

  unprotected-numbered : (form : Form) (e : ℕ) (packet : List ℕ) (at : ℕ) → Numbered (unprotected suite form k e packet at)
  unfolding unprotected
  unprotected-numbered form e packet at =
      stepped (revealed suite form k.hp e packet at) (revealed-numbered form e packet at) (λ r. decrypted-numbered packet at r)

  pub opened-numbered : (e : ℕ) (d : List ℕ) (room : ℕ) → Numbered (opened suite rules k e d room)
  unfolding opened
  opened-numbered e d room =
      tested 10 (leb e numbers) (lit< tt)
      (tested 4 (known k.version) (lit< tt)
      (judged (formed rules long_form d) (formed-numbered rules long_form d)
      (stepped (header (of_keys k) d) (header-numbered d (of_keys k) (only-level-numbered k.level))
      (λ h. tested 8 (leb (length (take (h.number_at + h.length') d) - tag_length) room) (lit< tt)
      (unprotected-numbered long_form e (take (h.number_at + h.length') d) h.number_at)))))

-- ---- Retry
pub retry-written-numbered : (rules : Rules) (v : ℕ) (original destination source token : List ℕ) (low room : ℕ) → Numbered (retry_written rules v original destination source token low room)
unfolding retry_written
retry-written-numbered rules v original destination source token low room =
    let packet = tagged v original (untagged v destination source token low) in
    tested 4 (known v) (lit< tt)
    (tested 5 (leb (length original) longest_id) (lit< tt)
    (tested 5 (leb (length destination) longest_id) (lit< tt)
    (tested 5 (leb (length source) longest_id) (lit< tt)
    (tested 13 (leb 1 (length token)) (lit< tt)
    (tested 1 (leb (length packet) rules.limit) (lit< tt) (tested 8 (leb (length packet) room) (lit< tt) some))))))

token-numbered : (d : List ℕ) (at : ℕ) → Numbered (token_at d at)
unfolding token_at
token-numbered d at = tested 3 (leb (at + tag_length) (length d)) (lit< tt) (tested 13 (leb 1 (length d - at - tag_length)) (lit< tt) some)

retry-header-numbered : (rules : Rules) (d : List ℕ) → Numbered (retry_header rules d)
unfolding retry_header
retry-header-numbered rules d =
    judged (formed rules long_form d) (formed-numbered rules long_form d) (long-numbered d retries only-retry-numbered)

pub retry-checked-numbered : (rules : Rules) (original d : List ℕ) → Numbered (retry_checked rules original d)
unfolding retry_checked
retry-checked-numbered rules original d =
    tested 5 (leb (length original) longest_id) (lit< tt)
    (stepped (retry_header rules d) (retry-header-numbered rules d)
    (λ l. stepped (token_at d (behind l.source)) (token-numbered d (behind l.source))
    (λ token. tested 11 (same (drop (behind token) d) (retry_tag l.version original (take (behind token) d))) (lit< tt) some)))
