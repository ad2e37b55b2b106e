-- The keys that are made have their sizes, so that 49 bytes give them back.
use Prim.Native.Nat.{ℕ, ◌+◌, ◌*◌, ◌/◌, ◌^◌, ◌≤◌, ◌<◌}
use mathlib.Core.Path.{◌≡◌, refl, ap, subst, ◌∙◌}
use mathlib.Core.List.{List, [], ◌∷◌, ◌++◌, foldl}
use native.Mathlib.Omega.{arith}
use lib.Dec.{leb, lit<}
use lib.ListN.{length, take}
use lib.Seq.{length-take-le}
use Rattle.octets.specs.Outcome.{given}
use Rattle.octets.proofs.Outcome.{passed, given-same}
use Rattle.sha256_constants.specs.Constants.{H⁰}
use Rattle.sha256_padding.specs.Padding.{padding}
use Rattle.sha256.specs.Sha256.{blocks, compressed, absorbed, hash}
use Rattle.sha256.proofs.Digest.{digest-length}
use Rattle.hmac.specs.Hmac.{hmac}
use Rattle.hkdf.specs.Hkdf.{T, Ts, expand, info, expand_label}
use Rattle.versions.specs.Levels.{initial}
use Rattle.versions.specs.Versions.{known, version}
use Rattle.header_fields.specs.Fields.{longest_id}
use Rattle.protection.specs.Protection.{Keys}
use Rattle.keys_expansion.specs.Expansion.{keys_from}
use Rattle.keys.specs.Sides.{Side}
use Rattle.keys.specs.InitialKeys.{side_secret, initial_keys}
use Rattle.keys.specs.InstalledKeys.{installs, installed}
use Rattle.c_key_record.specs.Layout.{key_bytes, keys_in}
use Rattle.c_key_record.proofs.KeyRecords.{Sized, keys-back}

-- ---- FIPS 180-4: a hash value has eight words
eight-words : (h : List ℕ) (blocks : List (List ℕ)) → length h ≡ 8 → length (foldl compressed h blocks) ≡ 8
unfolding compressed
eight-words h [] eight = eight
eight-words h (block ∷ blocks) eight = eight-words (compressed h block) blocks refl

absorbed-length : (h m : List ℕ) → length h ≡ 8 → length (absorbed h m) ≡ 8
unfolding absorbed
absorbed-length h m = eight-words h (blocks m)

hash-length : (m : List ℕ) → length (hash m) ≡ 32
unfolding hash H⁰
hash-length m =
    let text = m ++ padding (length m) in
    digest-length (absorbed H⁰ text) ∙ ap (λ (n : ℕ). 4 * n) (absorbed-length H⁰ text refl)

-- ---- RFC 5869 section 2.3: the first block
block-length : (prk text : List ℕ) → length (Ts prk text 1) ≡ 32
unfolding Ts T hmac
block-length prk text = hash-length _

-- ---- RFC 8446 section 7.1: up to 32 bytes are of the first block
label-length : (secret label : List ℕ) (L : ℕ) → 1 ≤ L → L ≤ 32 → length (expand_label secret label L) ≡ L
unfolding expand_label expand
label-length secret label L some few =
    let text = info label L in
    let one : (L + 31) / 32 ≡ 1 = omega arith in
    ap (λ (n : ℕ). length (take L (Ts secret text n))) one ∙ length-take-le L (Ts secret text 1) (omega (arith, block-length secret text))

-- ---- RFC 9001 section 5.1
sizes : (v level : ℕ) (secret : List ℕ) → Sized (keys_from v level secret)
unfolding keys_from
sizes v level secret = record {
  of-key = label-length secret (version v).key_label 16 (lit< tt) (lit< tt);
  of-iv = label-length secret (version v).iv_label 12 (lit< tt) (lit< tt);
  of-hp = label-length secret (version v).hp_label 16 (lit< tt) (lit< tt);
}

-- what is written of a secret's keys is read as those keys
secret-back : (v level : ℕ) (secret : List ℕ) {k : Keys} → v < 2 ^ 32 → keys_from v level secret ≡ k → keys_in (key_bytes k) ≡ k
unfolding keys_from
secret-back v level secret fits is =
    subst (λ (x : Keys). keys_in (key_bytes x) ≡ x) is (keys-back (keys_from v level secret) (sizes v level secret) fits)

-- so what is written of the keys made, or installed, is read as those
pub made-back : (v : ℕ) (destination : List ℕ) (side : Side) {k : Keys} → v < 2 ^ 32 → initial_keys v destination side ≡ given k → keys_in (key_bytes k) ≡ k
unfolding initial_keys
made-back v destination side fits is =
    let ours = passed 4 (known v) _ is in
    let short = passed 5 (leb (length destination) longest_id) _ ours.1 in
    secret-back v initial (side_secret v destination side) fits (given-same short.1)

pub installed-back : (v level : ℕ) (sender : Side) (secret : List ℕ) {k : Keys} → v < 2 ^ 32 → installed v level sender secret ≡ given k → keys_in (key_bytes k) ≡ k
unfolding installed
installed-back v level sender secret fits is =
    let ours = passed 4 (known v) _ is in
    let sent = passed 6 (installs level sender) _ ours.1 in
    secret-back v level secret fits (given-same sent.1)
