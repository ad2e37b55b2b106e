-- A header that was written is read back: each field where it stands, whatever stands behind.
use Prim.Native.Nat.{ℕ, suc, ◌+◌, ◌/◌, ◌%◌, ◌^◌, ◌≤◌, ◌<◌}
use mathlib.Core.Path.{◌≡◌, refl, sym, ap, subst, ◌∙◌}
use mathlib.Core.List.{List, [], ◌∷◌, ◌++◌, append_assoc}
use mathlib.Core.Bool.{true, ◌||◌}
use native.Mathlib.Omega.{arith}
use lib.ListN.{length, get_or, length-append}
use Rattle.octets.specs.Outcome.{refused, given}
use Rattle.octets.specs.Octets.{bytes, number, part}
use Rattle.octets.proofs.Parts.{regroup}
use Rattle.octets.proofs.Places.{At, begins, past, byte_at, part_at}
use Rattle.octets.proofs.Numbers.{bytes-length, number-back}
use Rattle.integers.specs.Integer.{integer}
use Rattle.integers_writing.specs.Written.{smallest}
use Rattle.integers_writing.proofs.IntegersBack.{smallest-back}
use Rattle.versions.specs.Levels.{has_token, has_no_token}
use Rattle.versions.specs.Versions.{known, version, type_for, level_of}
use Rattle.versions.proofs.Versions.{version-fits, type-fits, retry-fits, level-back, without-token}
use Rattle.header_forms.specs.Rules.{Rules, Readable}
use Rattle.header_fields.specs.Fields.{longest_id, least_length, id_at, field_at, rest_at}
use Rattle.header_fields.proofs.Fields.{id-whole, integer-found, field-whole, rest-whole}
use Rattle.header_long.specs.LongHeader.{Judge, only_level, only_retry, Long, version_of, long}
use Rattle.header_long.proofs.LongHeaders.{version-found, level-wanted, level-other, retry-right, judged-type, judged-right, long-no-version, long-found}
use Rattle.header_reading.specs.PacketHeader.{Token, token_at, Header, header}
use Rattle.header_reading.proofs.PacketHeaders.{token-none, token-found, header-found}
use Rattle.header_writing.specs.Written.{TokenField, holding, absent, writes, token_bytes, Plain, long_first, with_length, long_fields, packet_fields, length_of, fields}
use Rattle.header_writing.proofs.Forms.{fields-length}

-- ---- one field
module _ (d : List ℕ) (at : ℕ) where
  pub id-read : (id rest : List ℕ) → At d at (with_length id ++ rest) → length id ≤ longest_id → id_at d at ≡ given (record { at = at + 1; len = length id })
  id-read id rest h short =
      let l = length-append id rest in
      let says = byte_at d at (length id) (id ++ rest) h in
      id-whole d at (omega arith) (omega arith) (omega arith) ∙ ap (λ (n : ℕ). given (record { at = at + 1; len = n })) says

  -- a length in its smallest form, and as many bytes
  pub field-read : (field rest : List ℕ) → At d at (smallest (length field) ++ (field ++ rest)) → length field < 2 ^ 30
      → field_at d at ≡ given (record { at = at + length (smallest (length field)); len = length field })
  field-read field rest h small =
      let l = length-append field rest in
      let end = past d at (at + length (smallest (length field))) (smallest (length field)) (field ++ rest) h refl in
      let is = sym (ap integer h.there ∙ smallest-back (length field) (field ++ rest) small) in
      field-whole d at (sym (integer-found d at is)) (omega arith)

  -- a Length that the rules write, and at least as many bytes behind
  pub rest_read : (rules : Rules) → Readable rules → (n : ℕ) (rest : List ℕ) → At d at (rules.length_form n ++ rest) → n ≤ rules.limit → least_length ≤ n
      → n ≤ length rest → rest_at d at ≡ given (record { at = at + length (rules.length_form n); len = n })
  rest_read rules readable n rest h small enough all =
      let end = past d at (at + length (rules.length_form n)) (rules.length_form n) rest h refl in
      let is = sym (ap integer h.there ∙ readable.back n rest small) in
      rest-whole d at (sym (integer-found d at is)) enough (omega arith)

-- ---- what every long header begins with
-- the first byte's high four bits
pub first-form : (type low : ℕ) → low < 16 → long_first type low / 16 ≡ 12 + type
first-form type low h = omega arith

-- a type is read back from the first byte
pub type-back : (first type : ℕ) → first / 16 ≡ 12 + type → type ≤ 3 → first / 16 % 4 ≡ type
type-back first type form narrow = omega arith

-- whoever writes a token's field, or none, has a level that is named
named : (field : TokenField) (level : ℕ) → writes field level ≡ true → has_token level || has_no_token level ≡ true
named (holding token) level h = rw h
named absent level h = rw (without-token level h, h)

-- a reader of one level takes the type that was written for it, and for that level; a reader of another refuses it
module _ (v first level : ℕ) (field : TokenField) (form : first / 16 ≡ 12 + type_for (version v) level) (suits : writes field level ≡ true) where
  level-read : given level ≡ level_of (version v) (first / 16 % 4)
  level-read = rw (type-back first (type_for (version v) level) form (type-fits v level)) (sym (level-back v level (named field level suits)))

  pub level-taken : given level ≡ only_level level (version v) (first / 16 % 4)
  level-taken = sym (level-wanted (version v) (first / 16 % 4) level level-read refl)

  pub level-refused : (other : ℕ) → (level ≡ other → ⊥) → refused 6 ≡ only_level other (version v) (first / 16 % 4)
  level-refused other apart = sym (level-other (version v) (first / 16 % 4) other level-read apart)

-- a reader of Retry takes Retry's
pub retry-taken : (v first : ℕ) → first / 16 ≡ 12 + (version v).retry_type → given (version v).retry_type ≡ only_retry (version v) (first / 16 % 4)
retry-taken v first form =
    let type = type-back first (version v).retry_type form (retry-fits v) in
    sym (retry-right (version v) (first / 16 % 4) type ∙ ap given type)

-- a datagram that begins with a first byte whose type the reader takes for something, a version that it takes and two IDs
pub record LongWritten {A : Type 0} (judge : Judge A) (v first : ℕ) (kind : A) (destination source d rest : List ℕ) : Type 0 where
  pub is : d ≡ first ∷ long_fields v destination source ++ rest
  pub ours : known v ≡ true
  pub taken : judge.takes v ≡ true
  pub judges : given kind ≡ judge.kind (version v) (first / 16 % 4)
  pub short-destination : length destination ≤ longest_id
  pub short-source : length source ≤ longest_id

-- where its parts stand
abbrev pub long_places : {A : Type 0} → (v : ℕ) (kind : A) (destination source : List ℕ) → Long A
long_places v kind destination source = record {
  version = v;
  kind = kind;
  destination = record { at = 6; len = length destination };
  source = record { at = 6 + length destination + 1; len = length source };
}

-- what stands from the destination's length on
abbrev from_destination : (destination source rest : List ℕ) → List ℕ
from_destination destination source rest = with_length destination ++ (with_length source ++ rest)

module _ (v first : ℕ) (destination source d rest : List ℕ) (is : d ≡ first ∷ long_fields v destination source ++ rest) where
  at-version : At d 1 (bytes 4 v ++ from_destination destination source rest)
  unfolding long_fields
  at-version =
      let l : length d ≡ suc (length (long_fields v destination source ++ rest)) = rw is in
      begins d 1 (bytes 4 v ++ from_destination destination source rest) (omega arith) (rw is (regroup (bytes 4 v) (with_length destination) (with_length source) rest))

  at-destination : At d 5 (from_destination destination source rest)
  at-destination = past d 1 5 (bytes 4 v) (from_destination destination source rest) at-version (rw (bytes-length 4 v))

  at_source : At d (6 + length destination) (with_length source ++ rest)
  at_source = past d 5 (6 + length destination) (with_length destination) (with_length source ++ rest) at-destination (omega arith)

  -- what stands behind the two IDs
  pub behind-ids : At d (6 + length destination + 1 + length source) rest
  behind-ids = past d (6 + length destination) (6 + length destination + 1 + length source) (with_length source) rest at_source (omega arith)

  -- the IDs themselves
  pub destination-back : part d 6 (length destination) ≡ destination
  destination-back =
      let there = past d 5 6 (length destination ∷ []) (destination ++ (with_length source ++ rest)) at-destination refl in
      part_at d 6 (length destination) destination (with_length source ++ rest) there refl

  pub source-back : part d (6 + length destination + 1) (length source) ≡ source
  source-back =
      let there = past d (6 + length destination) (6 + length destination + 1) (length source ∷ []) (source ++ rest) at_source refl in
      part_at d (6 + length destination + 1) (length source) source rest there refl

module _ (v first : ℕ) (destination source d rest : List ℕ) (is : d ≡ first ∷ long_fields v destination source ++ rest) (ours : known v ≡ true) where
  version-read : version_of d ≡ given v
  version-read =
      let there = at-version v first destination source d rest is in
      let end = at-destination v first destination source d rest is in
      let value = ap number (part_at d 1 4 (bytes 4 v) (from_destination destination source rest) there (bytes-length 4 v)) in
      version-found d (omega arith) ∙ ap given (value ∙ number-back 4 v (version-fits v ours))

  -- a reader that takes the version, and refuses the type
  pub long-refused : {A : Type 0} (judge : Judge A) {n : ℕ} → judge.takes v ≡ true → refused n ≡ judge.kind (version v) (first / 16 % 4) → long judge d ≡ refused n
  long-refused judge taken refuses =
      let byte : first ≡ get_or d 0 0 = rw is in
      long-no-version judge d (sym (judged-type judge d (sym version-read) ours taken (rw (← byte) refuses)))

module _ {A : Type 0} (judge : Judge A) (v first : ℕ) (kind : A) (destination source d rest : List ℕ) (w : LongWritten judge v first kind destination source d rest) where
  pub long-read : long judge d ≡ given (long_places v kind destination source)
  long-read =
      let byte : first ≡ get_or d 0 0 = rw w.is in
      let version = version-read v first destination source d rest w.is w.ours in
      let right = judged-right judge d (sym version) w.ours w.taken {a = kind} (rw (← byte) w.judges) in
      let one = id-read d 5 destination _ (at-destination v first destination source d rest w.is) w.short-destination in
      let two = id-read d (6 + length destination) source rest (at_source v first destination source d rest w.is) w.short-source in
      long-found judge d (sym right) (sym one) (sym two)

-- ---- the header of a packet with a number
-- the token's place, and where the fields go on
abbrev pub token_place : (at : ℕ) → TokenField → Token
token_place at (holding token) = record {
  place = record { at = at + length (smallest (length token)); len = length token };
  end = at + length (smallest (length token)) + length token;
}
token_place at absent = record { place = record { at = 0; len = 0 }; end = at }

pub token_end : (at : ℕ) (field : TokenField) → (token_place at field).end ≡ at + length (token_bytes field)
token_end at (holding token) = omega (arith, length-append (smallest (length token)) token)
token_end at absent = omega arith

-- a token field that was written is read back at a level whose keys write it
pub token-read : (level : ℕ) (d : List ℕ) (at : ℕ) (field : TokenField) (rest : List ℕ) → writes field level ≡ true → At d at (token_bytes field ++ rest)
    → length (token_bytes field) < 2 ^ 30 → token_at level d at ≡ given (token_place at field)
token-read level d at (holding token) rest has h small =
    let l = length-append (smallest (length token)) token in
    let there : At d at (smallest (length token) ++ (token ++ rest)) = subst (At d at) (append_assoc (smallest (length token)) token rest) h in
    token-found level d at has (sym (field-read d at token rest there (omega arith)))
token-read level d at absent rest has h small = token-none level d at (without-token level has)

-- and so is the token itself
abbrev pub token_held : TokenField → List ℕ
token_held (holding token) = token
token_held absent = []

token-part : (d : List ℕ) (at : ℕ) (field : TokenField) (rest : List ℕ) → At d at (token_bytes field ++ rest)
    → part d (token_place at field).place.at (token_place at field).place.len ≡ token_held field
token-part d at (holding token) rest h =
    let there : At d at (smallest (length token) ++ (token ++ rest)) = subst (At d at) (append_assoc (smallest (length token)) token rest) h in
    let begins-here = past d at (at + length (smallest (length token))) (smallest (length token)) (token ++ rest) there refl in
    part_at d (at + length (smallest (length token))) (length token) token rest begins-here refl
token-part d at absent rest h = refl

module _ (p : Plain) where
  -- the token's field and Length
  abbrev pub token_field_at : ℕ
  token_field_at = 6 + length p.destination + 1 + length p.source

  abbrev pub length_at : ℕ
  length_at = token_field_at + length (token_bytes p.token)

module _ (rules : Rules) (p : Plain) where
  abbrev pub number_at : ℕ
  number_at = length_at p + length (rules.length_form (length_of p))

  abbrev pub places_of : (v level : ℕ) → Header
  places_of v level = record {
    version = v;
    level = level;
    destination = record { at = 6; len = length p.destination };
    source = record { at = 6 + length p.destination + 1; len = length p.source };
    token = (token_place (token_field_at p) p.token).place;
    length' = length_of p;
    number_at = number_at;
  }

  -- what stands from Length on, and from the token's field on
  abbrev from_length : List ℕ → List ℕ
  from_length rest = rules.length_form (length_of p) ++ rest

  abbrev from_token : List ℕ → List ℕ
  from_token rest = token_bytes p.token ++ from_length rest

module _ (rules : Rules) (v first : ℕ) (p : Plain) (d rest : List ℕ) (is : d ≡ first ∷ fields rules v p ++ rest) where
  -- behind the IDs
  pub is-long : d ≡ first ∷ long_fields v p.destination p.source ++ from_token rules p rest
  unfolding packet_fields
  is-long =
      is ∙ ap (λ (s : List ℕ). first ∷ s)
      (regroup (long_fields v p.destination p.source) (token_bytes p.token) (rules.length_form (length_of p)) rest)

  at-token : At d (token_field_at p) (from_token rules p rest)
  at-token = behind-ids v first p.destination p.source d (from_token rules p rest) is-long

  pub token_back : part d (token_place (token_field_at p) p.token).place.at (token_place (token_field_at p) p.token).place.len ≡ token_held p.token
  token_back = token-part d (token_field_at p) p.token (from_length rules p rest) at-token

  at_length : At d (length_at p) (from_length rules p rest)
  at_length = past d (token_field_at p) (length_at p) (token_bytes p.token) (from_length rules p rest) at-token refl

  -- what stands behind Length
  pub at-number : At d (number_at rules p) rest
  at-number = past d (length_at p) (number_at rules p) (rules.length_form (length_of p)) rest at_length refl

-- the number stands behind the first byte and the fields
pub number-place : (rules : Rules) (v : ℕ) (p : Plain) → number_at rules p ≡ 1 + length (fields rules v p)
number-place rules v p = omega (arith, fields-length rules v p.destination p.source p.token (length_of p))

-- a datagram that begins with the fields of p behind a first byte that the reader takes for a level, and goes on as long as Length says
pub record Written (rules : Rules) (judge : Judge ℕ) (v first level : ℕ) (p : Plain) (d rest : List ℕ) : Type 0 where
  pub is : d ≡ first ∷ fields rules v p ++ rest
  pub fits : length d ≤ rules.limit
  pub ours : known v ≡ true
  pub taken : judge.takes v ≡ true
  pub judges : given level ≡ judge.kind (version v) (first / 16 % 4)
  pub suits : writes p.token level ≡ true
  pub short-destination : length p.destination ≤ longest_id
  pub short-source : length p.source ≤ longest_id
  pub enough : least_length ≤ length_of p
  pub all : length_of p ≤ length rest

-- whichever of the three types it is
pub header_read : (rules : Rules) → Readable rules → (judge : Judge ℕ) (v first level : ℕ) (p : Plain) (d rest : List ℕ)
    → Written rules judge v first level p d rest → header judge d ≡ given (places_of rules p v level)
header_read rules readable judge v first level p d rest w =
    let token-ends = at_length rules v first p d rest w.is in
    let end = at-number rules v first p d rest w.is in
    let begin = long-read judge v first level p.destination p.source d _ (record {
      is = is-long rules v first p d rest w.is;
      ours = w.ours;
      taken = w.taken;
      judges = w.judges;
      short-destination = w.short-destination;
      short-source = w.short-source;
    }) in
    let token = token-read level d (token_field_at p) p.token _ w.suits (at-token rules v first p d rest w.is) (omega (arith, w.fits, readable.small)) in
    let behind = rest_read d (length_at p) rules readable (length_of p) rest (at_length rules v first p d rest w.is) (omega (arith, w.fits, w.all)) w.enough w.all in
    header-found judge d (sym begin) (sym token) (sym behind ∙ ap (rest_at d) (sym (token_end (token_field_at p) p.token)))
