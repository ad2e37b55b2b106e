-- RFC 9001 section 5.8: what is written is accepted, and handed back as it was.
use Prim.Native.Nat.{ℕ, ◌+◌, ◌-◌, ◌/◌, ◌%◌}
use mathlib.Core.Path.{◌≡◌, refl, sym, ap, ◌∙◌}
use mathlib.Core.Bool.{true}
use mathlib.Core.List.{List, ◌∷◌, ◌++◌, append_assoc}
use native.Mathlib.Omega.{arith}
use lib.ListN.{length, get_or, take, drop, length-append}
use lib.Seq.{take_at, drop_at}
use Rattle.octets.specs.Outcome.{given}
use Rattle.octets.proofs.Outcome.{given-first}
use Rattle.versions.specs.Versions.{version}
use Rattle.header_forms.specs.Rules.{Rules}
use Rattle.header_forms.specs.Forms.{long_form, formed}
use Rattle.header_forms.proofs.Forms.{formed-right}
use Rattle.header_long.specs.LongHeader.{long}
use Rattle.header_fields.specs.Fields.{tag_length}
use Rattle.header_fields.specs.Answers.{handed}
use Rattle.header_writing.specs.Written.{long_first, long_fields}
use Rattle.versions.proofs.Versions.{retry-fits}
use Rattle.header_fields.proofs.Fields.{handed-part}
use Rattle.header_writing.proofs.HeaderBack.{first-form, retry-taken, long-read, long_places, behind-ids, destination-back, source-back}
use Rattle.octets.proofs.Places.{At, part_at}
use Rattle.octets.specs.Octets.{same}
use Rattle.octets.proofs.Same.{equal-same}
use Rattle.retry_tag.specs.Tag.{retry_tag, tagged}
use Rattle.retry_tag.proofs.Tags.{retry-tag-length}
use Rattle.retry_writing.specs.Written.{untagged, retry_written}
use Rattle.retry_writing.proofs.Packets.{untagged-length}
use Rattle.retry_writing.proofs.Refusals.{RetryMade, retry-made}
use Rattle.retry_checking.specs.Retry.{RetryFields, token_at, retries, retry_header, retry_checked}
use Rattle.retry_checking.proofs.Refusals.{token-found, check-given}

-- where the parts stand
abbrev pub retry_places : (v : ℕ) (destination source token : List ℕ) → RetryFields
retry_places v destination source token = record {
  version = v;
  destination = record { at = 6; len = length destination };
  source = record { at = 6 + length destination + 1; len = length source };
  token = record { at = 6 + length destination + 1 + length source; len = length token };
}

-- a packet that checking accepts, and whose parts are these
pub record Accepted (rules : Rules) (v : ℕ) (original destination source token packet : List ℕ) : Type 0 where
  pub places : retry_checked rules original packet ≡ given (retry_places v destination source token)
  pub destination-handed : handed (retry_checked rules original packet) (λ f. f.destination) packet ≡ destination
  pub source-handed : handed (retry_checked rules original packet) (λ f. f.source) packet ≡ source
  pub token-handed : handed (retry_checked rules original packet) (λ f. f.token) packet ≡ token

module _ (rules : Rules) (v : ℕ) (original destination source token : List ℕ) (low : ℕ) (packet : List ℕ) (made : RetryMade rules v original destination source token low packet) where
  abbrev first : ℕ
  first = long_first (version v).retry_type (low % 16)

  abbrev before : List ℕ
  before = untagged v destination source token low

  abbrev after : List ℕ
  after = retry_tag v original before

  abbrev token_place : ℕ
  token_place = 6 + length destination + 1 + length source

  -- the packet, as one that begins like every long header
  is-long : packet ≡ first ∷ long_fields v destination source ++ (token ++ after)
  unfolding tagged untagged
  is-long = made.is ∙ ap (λ (s : List ℕ). first ∷ s) (append_assoc (long_fields v destination source) token after)

  form : first / 16 ≡ 12 + (version v).retry_type
  form = first-form (version v).retry_type (low % 16) (omega arith)

  is-formed : formed rules long_form packet ≡ given tt
  is-formed =
      let byte : get_or packet 0 0 ≡ first = rw is-long in
      let some = ap length is-long in
      formed-right rules long_form packet (omega arith) made.fits (omega (arith, form, retry-fits v))

  long-back : retry_header rules packet ≡ given (long_places v (version v).retry_type destination source)
  unfolding retry_header
  long-back =
      given-first (long retries packet) (sym is-formed)
      ∙ long-read retries v first (version v).retry_type destination source packet (token ++ after) (record {
        is = is-long;
        ours = made.ours;
        taken = refl;
        judges = retry-taken v first form;
        short-destination = made.short-destination;
        short-source = made.short-source;
      })

  at-token : At packet token_place (token ++ after)
  at-token = behind-ids v first destination source packet (token ++ after) is-long

  token-read : token_at packet token_place ≡ given (record { at = token_place; len = length token })
  token-read =
      let all = length-append token after in
      let sixteen = retry-tag-length v original before in
      let len : length packet - token_place - tag_length ≡ length token = omega (arith, at-token.inside) in
      token-found packet token_place (omega (arith, at-token.inside)) (omega (arith, made.some))
      ∙ ap (λ (n : ℕ). given (record { at = token_place; len = n })) len

  -- the tag stands where it is looked for
  tag_read : same (drop (token_place + length token) packet) (retry_tag v original (take (token_place + length token) packet)) ≡ true
  unfolding tagged
  tag_read =
      let here : length before ≡ token_place + length token = untagged-length v destination source token low ∙ omega arith in
      equal-same _ _ (rw (made.is, take_at before after (token_place + length token) here, drop_at before after (token_place + length token) here))

  checked : retry_checked rules original packet ≡ given (retry_places v destination source token)
  checked = check-given rules original packet made.short-original (sym long-back) (sym token-read) tag_read

  pub accepted : Accepted rules v original destination source token packet
  accepted = record {
    places = checked;
    destination-handed = sym (handed-part (λ f. f.destination) packet (sym checked)) ∙ destination-back v first destination source packet (token ++ after) is-long;
    source-handed = sym (handed-part (λ f. f.source) packet (sym checked)) ∙ source-back v first destination source packet (token ++ after) is-long;
    token-handed = sym (handed-part (λ f. f.token) packet (sym checked)) ∙ part_at packet token_place (length token) token after at-token refl;
  }

-- for both versions, with nothing behind: the same original accepts it, and the version, the IDs and the token are those that were written
pub written-accepted : (rules : Rules) (v : ℕ) (original destination source token : List ℕ) (low room : ℕ) {packet : List ℕ}
    → retry_written rules v original destination source token low room ≡ given packet → Accepted rules v original destination source token packet
written-accepted rules v original destination source token low room {packet = packet} is =
    accepted rules v original destination source token low packet (retry-made rules v original destination source token low room is)
