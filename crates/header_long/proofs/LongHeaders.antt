-- Section 17.2: what reading a long header comes to, by what the tests show; and where its IDs stand.
use Prim.Native.Nat.{ℕ, ◌/◌, ◌%◌, ◌≤◌, ◌<◌}
use mathlib.Core.Path.{◌≡◌, sym}
use mathlib.Core.Bool.{Bool, true, false, ◌&&◌}
use mathlib.Core.List.{List}
use lib.Dec.{leb}
use lib.ListN.{length, get_or}
use borrow.Author.Tests.{le-leb, lt-leb, leb-true, eq-eqb, ne_eqb}
use Rattle.octets.specs.Outcome.{refused, given}
use Rattle.octets.specs.Octets.{number, part}
use Rattle.octets.proofs.Outcome.{passed, stepped, given-same, both}
use Rattle.versions.specs.Versions.{Version, known, version, level_of}
use Rattle.header_fields.specs.Fields.{Place, behind, id_at}
use Rattle.header_long.specs.LongHeader.{Judge, only_level, only_retry, Judged, Long, version_of, judged, long}
use Rattle.header_fields.proofs.Fields.{Within, id-within}

-- ---- the version
module _ (d : List ℕ) where
  pub version-short : length d < 5 → version_of d ≡ refused 3
  unfolding version_of
  version-short h = rw (lt-leb 5 (length d) h)

  pub version-found : 5 ≤ length d → version_of d ≡ given (number (part d 1 4))
  unfolding version_of
  version-found h = rw (le-leb 5 (length d) h)

-- a version that was read stood there whole
pub version-there : (d : List ℕ) {v : ℕ} → given v ≡ version_of d → 5 ≤ length d
unfolding version_of
version-there d is = let all = passed 3 (leb 5 (length d)) _ (sym is) in leb-true 5 (length d) all.0

-- ---- what a type is taken for
module _ (row : Version) (type : ℕ) where
  pub level-refused : (wanted : ℕ) {n : ℕ} → refused n ≡ level_of row type → only_level wanted row type ≡ refused n
  unfolding only_level
  level-refused wanted e = rw (← e)

  module _ {level : ℕ} (wanted : ℕ) (is : given level ≡ level_of row type) where
    pub level-other : (level ≡ wanted → ⊥) → only_level wanted row type ≡ refused 6
    unfolding only_level
    level-other h = rw (← is, ne_eqb level wanted h)

    pub level-wanted : level ≡ wanted → only_level wanted row type ≡ given level
    unfolding only_level
    level-wanted h = rw (← is, eq-eqb level wanted h)

  pub retry-other : (type ≡ row.retry_type → ⊥) → only_retry row type ≡ refused 6
  unfolding only_retry
  retry-other h = rw (ne_eqb type row.retry_type h)

  pub retry-right : type ≡ row.retry_type → only_retry row type ≡ given type
  unfolding only_retry
  retry-right h = rw (eq-eqb type row.retry_type h)

-- ---- the version and the type, judged
module _ {A : Type 0} (judge : Judge A) (d : List ℕ) where
  pub judged-none : {n : ℕ} → refused n ≡ version_of d → judged judge d ≡ refused n
  unfolding judged
  judged-none e = rw (← e)

  module _ {v : ℕ} (is : given v ≡ version_of d) where
    pub judged-unknown : known v ≡ false → judged judge d ≡ refused 4
    unfolding judged
    judged-unknown h = rw (← is, h)

    module _ (ours : known v ≡ true) where
      pub judged-other : judge.takes v ≡ false → judged judge d ≡ refused 4
      unfolding judged
      judged-other h = rw (← is, ours, h)

      module _ (taken : judge.takes v ≡ true) where
        pub judged-type : {n : ℕ} → refused n ≡ judge.kind (version v) (get_or d 0 0 / 16 % 4) → judged judge d ≡ refused n
        unfolding judged
        judged-type h = rw (← is, ours, taken, ← h)

        pub judged-right : {a : A} → given a ≡ judge.kind (version v) (get_or d 0 0 / 16 % 4) → judged judge d ≡ given (record { version = v; kind = a })
        unfolding judged
        judged-right h = rw (← is, ours, taken, ← h)

-- a version that was judged right
pub record Right (takes : ℕ → Bool) (d : List ℕ) (v : ℕ) : Type 0 where
  pub whole : 5 ≤ length d
  pub ours : known v ≡ true
  pub taken : takes v ≡ true

pub judged-there : {A : Type 0} (judge : Judge A) (d : List ℕ) {j : Judged A} → given j ≡ judged judge d → Right judge.takes d j.version
unfolding judged
judged-there judge d is =
    let found = stepped (version_of d) _ (sym is) in
    let right = passed 4 (known found.0 && judge.takes found.0) _ found.2 in
    let typed = stepped (judge.kind (version found.0) (get_or d 0 0 / 16 % 4)) _ right.1 in
    let two = both (known found.0) (judge.takes found.0) right.0 in
    rw (← (given-same typed.2)) (record { whole = version-there d (sym found.1); ours = two.0; taken = two.1 })

-- ---- what every long header begins with
module _ {A : Type 0} (judge : Judge A) (d : List ℕ) where
  pub long-no-version : {n : ℕ} → refused n ≡ judged judge d → long judge d ≡ refused n
  unfolding long
  long-no-version e = rw (← e)

  module _ {j : Judged A} (is : given j ≡ judged judge d) where
    pub long-no-destination : {n : ℕ} → refused n ≡ id_at d 5 → long judge d ≡ refused n
    unfolding long
    long-no-destination e = rw (← is, ← e)

    module _ {p : Place} (one : given p ≡ id_at d 5) where
      pub long-no-source : {n : ℕ} → refused n ≡ id_at d (behind p) → long judge d ≡ refused n
      unfolding long
      long-no-source e = rw (← is, ← one, ← e)

      pub long-found : {q : Place} → given q ≡ id_at d (behind p)
          → long judge d ≡ given (record { version = j.version; kind = j.kind; destination = p; source = q })
      unfolding long
      long-found e = rw (← is, ← one, ← e)

-- a long header that was read: its version is right, and the IDs, one behind the other, stand within the datagram
pub record LongThere {A : Type 0} (takes : ℕ → Bool) (d : List ℕ) (l : Long A) : Type 0 where
  pub right : Right takes d l.version
  pub destination : Within d 5 l.destination
  pub source : Within d (behind l.destination) l.source

pub long-there : {A : Type 0} (judge : Judge A) (d : List ℕ) {l : Long A} → given l ≡ long judge d → LongThere judge.takes d l
unfolding long
long-there judge d is =
    let right = stepped (judged judge d) _ (sym is) in
    let one = stepped (id_at d 5) _ right.2 in
    let two = stepped (id_at d (behind one.0)) _ one.2 in
    rw (← (given-same two.2)) (record {
      right = judged-there judge d (sym right.1);
      destination = id-within d 5 (sym one.1);
      source = id-within d (behind one.0) (sym two.1);
    })
