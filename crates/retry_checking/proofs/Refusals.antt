-- What checking a Retry comes to, by what the tests show.
use Prim.Native.Nat.{ℕ, ◌+◌, ◌-◌, ◌≤◌, ◌<◌}
use mathlib.Core.Path.{◌≡◌, sym}
use mathlib.Core.Bool.{true, false}
use mathlib.Core.List.{List}
use native.Mathlib.Omega.{arith}
use lib.Dec.{leb}
use lib.ListN.{length, take, drop}
use borrow.Author.Tests.{le-leb, lt-leb, leb-true}
use Rattle.octets.specs.Outcome.{refused, given}
use Rattle.octets.proofs.Outcome.{passed, stepped, followed, given-same}
use Rattle.header_forms.specs.Rules.{Rules}
use Rattle.header_forms.specs.Forms.{long_form, formed}
use Rattle.header_forms.proofs.Forms.{formed-fits}
use Rattle.header_fields.specs.Fields.{Place, behind, longest_id, tag_length}
use Rattle.header_long.specs.LongHeader.{Long}
use Rattle.header_fields.specs.declared.Part.{Part}
use Rattle.header_fields.proofs.Fields.{Within}
use Rattle.header_long.proofs.LongHeaders.{LongThere, long-there}
use Rattle.octets.specs.Octets.{same}
use Rattle.retry_tag.specs.Tag.{retry_tag}
use Rattle.retry_checking.specs.Answers.{retry_place}
use Rattle.retry_checking.specs.Retry.{RetryFields, token_at, retries, retry_header, retry_checked}

-- ---- the token and the tag behind it
module _ (d : List ℕ) (at : ℕ) where
  pub token-no-tag : length d < at + tag_length → token_at d at ≡ refused 3
  unfolding token_at
  token-no-tag h = rw (lt-leb (at + tag_length) (length d) h)

  module _ (all : at + tag_length ≤ length d) where
    pub token-none : length d - at - tag_length < 1 → token_at d at ≡ refused 13
    unfolding token_at
    token-none h = rw (le-leb (at + tag_length) (length d) all, lt-leb 1 (length d - at - tag_length) h)

    pub token-found : 1 ≤ length d - at - tag_length → token_at d at ≡ given (record { at = at; len = length d - at - tag_length })
    unfolding token_at
    token-found h = rw (le-leb (at + tag_length) (length d) all, le-leb 1 (length d - at - tag_length) h)

-- a token that was found: behind it stands the tag, and nothing more
pub record TokenThere (d : List ℕ) (at : ℕ) (p : Place) : Type 0 where
  pub after : at ≤ p.at
  pub end : behind p + tag_length ≡ length d

pub token-there : (d : List ℕ) (at : ℕ) {p : Place} → given p ≡ token_at d at → TokenThere d at p
unfolding token_at
token-there d at is =
    let all = passed 3 (leb (at + tag_length) (length d)) _ (sym is) in
    let some = passed 13 (leb 1 (length d - at - tag_length)) _ all.1 in
    let fits = leb-true (at + tag_length) (length d) all.0 in
    rw (← (given-same some.1)) (record { after = omega arith; end = omega arith })

-- ---- what a Retry begins with
pub record HeaderThere (rules : Rules) (d : List ℕ) (l : Long ℕ) : Type 0 where
  pub fits : length d ≤ rules.limit
  pub long : LongThere (λ v. true) d l

pub header-there : (rules : Rules) (d : List ℕ) {l : Long ℕ} → given l ≡ retry_header rules d → HeaderThere rules d l
unfolding retry_header
header-there rules d is =
    let one = followed (formed rules long_form d) _ (sym is) in
    record { fits = formed-fits rules long_form d (sym one.1); long = long-there retries d (sym one.2) }

-- ---- checking
module _ (rules : Rules) (original d : List ℕ) where
  pub check-long-original : longest_id < length original → retry_checked rules original d ≡ refused 5
  unfolding retry_checked
  check-long-original h = rw (lt-leb (length original) longest_id h)

  module _ (o : length original ≤ longest_id) where
    pub check-no-long : {n : ℕ} → refused n ≡ retry_header rules d → retry_checked rules original d ≡ refused n
    unfolding retry_checked
    check-no-long e = rw (le-leb (length original) longest_id o, ← e)

    module _ {l : Long ℕ} (is-long : given l ≡ retry_header rules d) where
      pub check-no-token : {n : ℕ} → refused n ≡ token_at d (behind l.source) → retry_checked rules original d ≡ refused n
      unfolding retry_checked
      check-no-token e = rw (le-leb (length original) longest_id o, ← is-long, ← e)

      module _ {t : Place} (is-token : given t ≡ token_at d (behind l.source)) where
        pub check-other-tag : same (drop (behind t) d) (retry_tag l.version original (take (behind t) d)) ≡ false → retry_checked rules original d ≡ refused 11
        unfolding retry_checked
        check-other-tag h = rw (le-leb (length original) longest_id o, ← is-long, ← is-token, h)

        pub check-given : same (drop (behind t) d) (retry_tag l.version original (take (behind t) d)) ≡ true
            → retry_checked rules original d ≡ given (record { version = l.version; destination = l.destination; source = l.source; token = t })
        unfolding retry_checked
        check-given h = rw (le-leb (length original) longest_id o, ← is-long, ← is-token, h)

-- a Retry that was accepted: its parts, one behind the other, stand within the datagram
pub record RetryThere (d : List ℕ) (f : RetryFields) : Type 0 where
  pub destination : Within d 5 f.destination
  pub source : Within d (behind f.destination) f.source
  pub token : TokenThere d (behind f.source) f.token

pub retry-there : (rules : Rules) (original d : List ℕ) {f : RetryFields} → given f ≡ retry_checked rules original d → RetryThere d f
unfolding retry_checked
retry-there rules original d is =
    let o = passed 5 (leb (length original) longest_id) _ (sym is) in
    let l = stepped (retry_header rules d) _ o.1 in
    let t = stepped (token_at d (behind l.0.source)) _ l.2 in
    let tag = passed 11 (same (drop (behind t.0) d) (retry_tag l.0.version original (take (behind t.0) d))) _ t.2 in
    let begin = (header-there rules d (sym l.1)).long in
    rw (← (given-same tag.1)) (record {
      destination = begin.destination;
      source = begin.source;
      token = token-there d (behind l.0.source) (sym t.1);
    })

-- each part stands within the datagram
pub part-there : (part : Part) {d : List ℕ} {f : RetryFields} → RetryThere d f → behind (retry_place part f) ≤ length d
part-there Part.Destination there = there.destination.inside
part-there Part.Source there = there.source.inside
part-there Part.Token there = omega (arith, there.token.end)
