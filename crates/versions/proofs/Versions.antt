-- The version table: which row a version takes, how large it is, and how its packet types stand for levels.
use Prim.Native.Nat.{ℕ, ◌≤◌, ◌<◌, ◌^◌}
use mathlib.Core.Path.{◌≡◌, refl}
use mathlib.Core.Bool.{Bool, true, false, ◌||◌, cond, false≢true}
use lib.Dec.{eqb, lit<, lit≤}
use borrow.Author.Tests.{eq-eqb, ne_eqb, eqb-true}
use Rattle.octets.specs.Outcome.{refused, given}
use Rattle.versions.specs.Levels.{initial, zero_rtt, handshake, has_token, has_no_token}
use Rattle.versions.specs.Versions.{Version, version1, draft2, known, version, type_for, level_of}

-- ---- version 1, and any other
module _ (v : ℕ) where
  pub version-one : v ≡ 1 → version v ≡ version1
  unfolding version version1
  version-one h = rw (eq-eqb v 1 h)

  pub version-other : (v ≡ 1 → ⊥) → version v ≡ draft2
  unfolding version version1
  version-other h = rw (ne_eqb v 1 h)

  -- an entry of the version's own row
  pub entry : {A : Type 0} (of : Version → A) → of (version v) ≡ cond (eqb v 1) (of version1) (of draft2)
  unfolding version version1
  entry of = by (eqb v 1)
    where
      by : (b : Bool) → of (cond b version1 draft2) ≡ cond b (of version1) (of draft2)
      by true = refl
      by false = refl

  pub known-one : v ≡ 1 → known v ≡ true
  unfolding known version1
  known-one h = rw (eq-eqb v 1 h)

  pub known-other : (v ≡ 1 → ⊥) → known v ≡ eqb v 0x709a50c4
  unfolding known version1 draft2
  known-other h = rw (ne_eqb v 1 h)

  -- a known version fits its four bytes
  pub version-fits : known v ≡ true → v < 256 ^ 4
  unfolding known version1 draft2
  version-fits h = by (eqb v 1) (eqb v 0x709a50c4) refl refl h
    where
      by : (a b : Bool) → eqb v 1 ≡ a → eqb v 0x709a50c4 ≡ b → a || b ≡ true → v < 256 ^ 4
      by true b p q h = rw (eqb-true v 1 p) (lit< tt)
      by false true p q h = rw (eqb-true v 0x709a50c4 q) (lit< tt)
      by false false p q h = absurd (false≢true h)

  -- what holds of both rows holds of the version's
  of-both : (P : Version → Type 0) → P version1 → P draft2 → P (version v)
  unfolding version
  of-both P one two = by (eqb v version1.number)
    where
      by : (a : Bool) → P (cond a version1 draft2)
      by true = one
      by false = two

  -- a type fits two bits
  pub type-fits : (level : ℕ) → type_for (version v) level ≤ 3
  unfolding type_for version1 draft2
  type-fits level = by (eqb level initial) (eqb level zero_rtt)
    where
      by : (a b : Bool) → cond a (version v).initial_type (cond b (version v).zero_rtt_type (version v).handshake_type) ≤ 3
      by true b = of-both (λ row. row.initial_type ≤ 3) (lit≤ tt) (lit≤ tt)
      by false true = of-both (λ row. row.zero_rtt_type ≤ 3) (lit≤ tt) (lit≤ tt)
      by false false = of-both (λ row. row.handshake_type ≤ 3) (lit≤ tt) (lit≤ tt)

  pub retry-fits : (version v).retry_type ≤ 3
  unfolding version1 draft2
  retry-fits = of-both (λ row. row.retry_type ≤ 3) (lit≤ tt) (lit≤ tt)

  -- the type written for a level is read as that level
  pub level-back : (level : ℕ) → has_token level || has_no_token level ≡ true → level_of (version v) (type_for (version v) level) ≡ given level
  unfolding type_for level_of version1 draft2
  level-back level h = by (eqb level initial) (eqb level zero_rtt) (eqb level handshake) refl refl refl h
    where
      by : (a b c : Bool) → eqb level initial ≡ a → eqb level zero_rtt ≡ b → eqb level handshake ≡ c → a || (b || c) ≡ true → level_of (version v) (type_for (version v) level) ≡ given level
      by true b c p q r h = rw (eqb-true level initial p) (of-both (λ row. level_of row (type_for row initial) ≡ given initial) refl refl)
      by false true c p q r h = rw (eqb-true level zero_rtt q) (of-both (λ row. level_of row (type_for row zero_rtt) ≡ given zero_rtt) refl refl)
      by false false true p q r h = rw (eqb-true level handshake r) (of-both (λ row. level_of row (type_for row handshake) ≡ given handshake) refl refl)
      by false false false p q r h = absurd (false≢true h)

-- a level without a token is another than the one with it
pub without-token : (level : ℕ) → has_no_token level ≡ true → has_token level ≡ false
without-token level h = by (eqb level zero_rtt) (eqb level handshake) refl refl h
  where
    by : (a b : Bool) → eqb level zero_rtt ≡ a → eqb level handshake ≡ b → a || b ≡ true → has_token level ≡ false
    by true b p q h = rw (eqb-true level zero_rtt p) refl
    by false true p q h = rw (eqb-true level handshake q) refl
    by false false p q h = absurd (false≢true h)

-- ---- a level's type, by what the comparisons show
module _ (row : Version) (level : ℕ) where
  pub type-initial : level ≡ initial → row.initial_type ≡ type_for row level
  unfolding type_for
  type-initial h = rw (eq-eqb level initial h)

  module _ (one : level ≡ initial → ⊥) where
    pub type-zero-rtt : level ≡ zero_rtt → row.zero_rtt_type ≡ type_for row level
    unfolding type_for
    type-zero-rtt h = rw (ne_eqb level initial one, eq-eqb level zero_rtt h)

    pub type-handshake : (level ≡ zero_rtt → ⊥) → row.handshake_type ≡ type_for row level
    unfolding type_for
    type-handshake h = rw (ne_eqb level initial one, ne_eqb level zero_rtt h)

-- ---- and a type's level
module _ (row : Version) (type : ℕ) where
  pub level-initial : type ≡ type_for row initial → level_of row type ≡ given initial
  unfolding level_of type_for
  level-initial h = rw (eq-eqb type row.initial_type h)

  module _ (one : type ≡ type_for row initial → ⊥) where
    pub level-zero-rtt : type ≡ type_for row zero_rtt → level_of row type ≡ given zero_rtt
    unfolding level_of type_for
    level-zero-rtt h = rw (ne_eqb type row.initial_type one, eq-eqb type row.zero_rtt_type h)

    module _ (two : type ≡ type_for row zero_rtt → ⊥) where
      pub level-handshake : type ≡ type_for row handshake → level_of row type ≡ given handshake
      unfolding level_of type_for
      level-handshake h = rw (ne_eqb type row.initial_type one, ne_eqb type row.zero_rtt_type two, eq-eqb type row.handshake_type h)

      pub level-none : (type ≡ type_for row handshake → ⊥) → level_of row type ≡ refused 6
      unfolding level_of type_for
      level-none h = rw (ne_eqb type row.initial_type one, ne_eqb type row.zero_rtt_type two, ne_eqb type row.handshake_type h)
