-- Sections 17.2.2 to 17.2.4: what reading the header of a packet with a number comes to, by what the tests show; and where its parts stand.
use Prim.Native.Nat.{ℕ, ◌+◌, ◌≤◌}
use mathlib.Core.Path.{◌≡◌, refl, sym, ◌∙◌}
use mathlib.Core.Bool.{Bool, true, false}
use mathlib.Core.List.{List}
use native.Mathlib.Omega.{arith}
use lib.ListN.{length}
use Rattle.octets.specs.Outcome.{refused, given, ◌>>=◌}
use Rattle.octets.proofs.Outcome.{stepped, followed, given-same}
use Rattle.versions.specs.Levels.{has_token}
use Rattle.header_forms.specs.Rules.{Rules}
use Rattle.header_forms.specs.Forms.{long_form, formed}
use Rattle.header_fields.specs.Fields.{Place, behind, least_length, field_at, rest_at}
use Rattle.header_fields.specs.declared.Part.{Part}
use Rattle.header_fields.proofs.Fields.{Within, field-within, rest-within}
use Rattle.header_long.specs.LongHeader.{Judge, of_any_level, Long, long}
use Rattle.header_long.proofs.LongHeaders.{Right, long-there}
use Rattle.header_reading.specs.PacketHeader.{Token, token_at, Header, header, any_header}
use Rattle.header_reading.specs.Answers.{header_place}

-- ---- the token
module _ (level : ℕ) (d : List ℕ) (at : ℕ) where
  pub token-none : has_token level ≡ false → token_at level d at ≡ given (record { place = record { at = 0; len = 0 }; end = at })
  unfolding token_at
  token-none h = rw h

  module _ (has : has_token level ≡ true) where
    token-is : token_at level d at ≡ (field_at d at >>= λ f. given (record { place = f; end = behind f }))
    unfolding token_at
    token-is = rw has

    pub token-refused : {n : ℕ} → refused n ≡ field_at d at → token_at level d at ≡ refused n
    unfolding token_at
    token-refused e = rw (has, ← e)

    pub token-found : {p : Place} → given p ≡ field_at d at → token_at level d at ≡ given (record { place = p; end = behind p })
    unfolding token_at
    token-found e = rw (has, ← e)

  -- it stands within the datagram, and the fields go on behind the place where it was looked for
  pub record TokenThere (t : Token) : Type 0 where
    pub inside : behind t.place ≤ length d
    pub after : at ≤ t.end
    pub on : t.end ≤ length d

  pub token-there : at ≤ length d → {t : Token} → given t ≡ token_at level d at → TokenThere t
  token-there start {t} is = by (has_token level) refl
    where
      by : (b : Bool) → has_token level ≡ b → TokenThere t
      by false none = rw (given-same (is ∙ token-none none)) (record { inside = omega arith; after = omega arith; on = start })
      by true has =
          let field = stepped (field_at d at) _ (sym (is ∙ token-is has)) in
          let within = field-within d at start (sym field.1) in
          rw (← (given-same field.2)) (record { inside = within.inside; after = omega (arith, within.after); on = within.inside })

-- ---- the header
module _ (judge : Judge ℕ) (d : List ℕ) where
  pub header-no-long : {n : ℕ} → refused n ≡ long judge d → header judge d ≡ refused n
  unfolding header
  header-no-long e = rw (← e)

  module _ {l : Long ℕ} (is-long : given l ≡ long judge d) where
    pub header-no-token : {n : ℕ} → refused n ≡ token_at l.kind d (behind l.source) → header judge d ≡ refused n
    unfolding header
    header-no-token e = rw (← is-long, ← e)

    module _ {t : Token} (is-token : given t ≡ token_at l.kind d (behind l.source)) where
      pub header-no-rest : {n : ℕ} → refused n ≡ rest_at d t.end → header judge d ≡ refused n
      unfolding header
      header-no-rest e = rw (← is-long, ← is-token, ← e)

      pub header-found : {r : Place} → given r ≡ rest_at d t.end
          → header judge d ≡ given (record {
            version = l.version;
            level = l.kind;
            destination = l.destination;
            source = l.source;
            token = t.place;
            length' = r.len;
            number_at = r.at;
          })
      unfolding header
      header-found e = rw (← is-long, ← is-token, ← e)

-- a header that was read: its version is right, and its parts stand within the datagram, one behind the other but for a token that isn't there
pub record HeaderThere (takes : ℕ → Bool) (d : List ℕ) (h : Header) : Type 0 where
  pub right : Right takes d h.version
  pub destination : Within d 5 h.destination
  pub source : Within d (behind h.destination) h.source
  pub token : behind h.token ≤ length d
  pub number : behind h.source ≤ h.number_at
  pub enough : least_length ≤ h.length'
  pub all : h.number_at + h.length' ≤ length d

-- so each part stands within it
pub part-there : (part : Part) {takes : ℕ → Bool} {d : List ℕ} {h : Header} → HeaderThere takes d h → behind (header_place part h) ≤ length d
part-there Part.Destination there = there.destination.inside
part-there Part.Source there = there.source.inside
part-there Part.Token there = there.token

pub header-there : (judge : Judge ℕ) (d : List ℕ) {h : Header} → given h ≡ header judge d → HeaderThere judge.takes d h
unfolding header
header-there judge d is =
    let one = stepped (long judge d) _ (sym is) in
    let two = stepped (token_at one.0.kind d (behind one.0.source)) _ one.2 in
    let three = stepped (rest_at d two.0.end) _ two.2 in
    let begin = long-there judge d (sym one.1) in
    let token = token-there one.0.kind d (behind one.0.source) begin.source.inside (sym two.1) in
    let rest = rest-within d two.0.end token.on (sym three.1) in
    let same = given-same three.2 in
    rw (← same) (record {
      right = begin.right;
      destination = begin.destination;
      source = begin.source;
      token = token.inside;
      number = omega (arith, token.after, rest.0.after);
      enough = rest.1;
      all = rest.0.inside;
    })

-- ---- of a whole datagram
pub any-there : (rules : Rules) (d : List ℕ) {h : Header} → given h ≡ any_header rules d → HeaderThere (λ v. true) d h
unfolding any_header
any-there rules d is =
    let one = followed (formed rules long_form d) _ (sym is) in
    header-there (of_any_level (λ v. true)) d (sym one.2)
