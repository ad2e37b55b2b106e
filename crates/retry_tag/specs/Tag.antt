-- The tag of a Retry: RFC 9001 section 5.8.
use Rattle.std.specs.Prelude.{ℕ, List, [], ◌++◌}
use Rattle.versions.specs.Versions.{version}
use Rattle.header_writing.specs.Written.{with_length}
use Rattle.gcm.specs.Gcm.{tag}

-- the original connection ID behind its length byte, and then the Retry up to its tag
abbrev pub pseudo_packet : (original packet : List ℕ) → List ℕ
pseudo_packet original packet = with_length original ++ packet

-- the tag of nothing, with the pseudo-packet as associated data
unfoldable pub retry_tag : (v : ℕ) (original packet : List ℕ) → List ℕ
retry_tag v original packet = tag (version v).retry_key (version v).retry_nonce (pseudo_packet original packet) []

unfoldable pub tagged : (v : ℕ) (original packet : List ℕ) → List ℕ
tagged v original packet = packet ++ retry_tag v original packet
