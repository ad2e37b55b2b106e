-- How long a Retry's tag is, and how it is made.
use Prim.Native.Nat.{ℕ, ◌+◌}
use mathlib.Core.Path.{◌≡◌}
use mathlib.Core.List.{List, []}
use native.Mathlib.Omega.{arith}
use lib.ListN.{length, length-append}
use Rattle.aes_schedule.specs.Expansion.{expansion}
use Rattle.gcm.specs.Gcm.{hash_key, tag_by, tag}
use Rattle.gcm.proofs.Laws.{tag-length}
use Rattle.versions.specs.Versions.{version}
use Rattle.header_fields.specs.Fields.{tag_length}
use Rattle.retry_tag.specs.Tag.{pseudo_packet, retry_tag, tagged}

pub retry-tag-length : (v : ℕ) (original packet : List ℕ) → length (retry_tag v original packet) ≡ tag_length
unfolding retry_tag
retry-tag-length v original packet = tag-length (version v).retry_key (version v).retry_nonce (pseudo_packet original packet) []

pub tagged-length : (v : ℕ) (original packet : List ℕ) → length (tagged v original packet) ≡ length packet + tag_length
unfolding tagged
tagged-length v original packet =
    omega (arith, length-append packet (retry_tag v original packet), retry-tag-length v original packet)

-- the tag by its key's schedule, each equation what a call ensures
pub tag-made : (v : ℕ) (original packet : List ℕ) {key nonce schedule r : List ℕ} {h : ℕ}
    → key ≡ (version v).retry_key → nonce ≡ (version v).retry_nonce → schedule ≡ expansion key → h ≡ hash_key schedule
    → r ≡ tag_by schedule h nonce (pseudo_packet original packet) [] → r ≡ retry_tag v original packet
unfolding retry_tag tag
tag-made v original packet k n s e is = rw (is, e, s, k, n)
