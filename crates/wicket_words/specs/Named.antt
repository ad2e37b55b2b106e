-- What the words of a call name of a packet. A colon is 58.
use Rattle.std.specs.Prelude.{ℕ, ◌^◌, cond, List, eqb, ltb, take, replicate}
use Rattle.octets.specs.Octets.{same, begun}
use Rattle.octets.specs.Outcome.{Outcome}
use Rattle.octets.specs.Text.{ascii}
use Rattle.digits_reading.specs.Digits.{pairs}
use Rattle.digits_numbers.specs.Numbers.{number_of}
use Rattle.terminal_words.specs.Words.{word_of, word_count}
use Rattle.console.specs.Fields.{dash, value_or0}
use Rattle.numbers_shortening.specs.Shortening.{Acknowledged, nothing, up_to}
use Rattle.versions.specs.Levels.{initial, zero_rtt, handshake}
use Rattle.protection.specs.Protection.{Keys}
use Rattle.keys.specs.Answers.{side_of}
use Rattle.keys.specs.InitialKeys.{initial_keys}
use Rattle.keys.specs.InstalledKeys.{installed}
use Rattle.keys.specs.declared.Side.{Side}
use Rattle.keys.specs.declared.Side.TheVariants.{Client, Server}

-- the number that a word spells, and 0 where it spells none
abbrev pub number_at : List ℕ → ℕ → ℕ
number_at line i = value_or0 (number_of (word_of 0 line i))

-- the version that a word spells, and 0, which is none, where it spells none
unfoldable pub version_at : List ℕ → ℕ → ℕ
version_at line i = cond (ltb (number_at line i) (2 ^ 32)) (number_at line i) 0

-- the side that a word names: the server, or else the client
abbrev pub side_at : List ℕ → ℕ → Side
side_at line i = cond (same (word_of 0 line i) (ascii "server")) Server Client

-- the level that a word names: 0-RTT, Handshake, or else Initial
unfoldable pub level_named : List ℕ → ℕ
level_named t = cond (same t (ascii "0-rtt")) zero_rtt (cond (same t (ascii "handshake")) handshake initial)

-- the greatest number acknowledged, by a word; - is none
abbrev pub acknowledged_at : List ℕ → ℕ → Acknowledged
acknowledged_at line i = cond (same (word_of 0 line i) dash) nothing (up_to (number_at line i))

-- the bytes that a word spells, as many as a page holds
abbrev pub bytes_at : List ℕ → ℕ → List ℕ
bytes_at line i = take 4096 (pairs (word_of 0 line i))

-- the secret that a word spells: 32 bytes, with zeros behind where it spells fewer
unfoldable pub secret_spelt : List ℕ → List ℕ
secret_spelt t = begun (take 32 (pairs t)) (replicate 32 0)

-- the Initial keys of the version, the ID and the side that the first three words behind a command name
abbrev pub initial_named : List ℕ → Outcome Keys
initial_named line = initial_keys (version_at line 1) (bytes_at line 2) (side_of (side_at line 3))

-- the keys of a level and a secret, for the version and the side that the first and the third word name
abbrev pub installed_by : (line level secret : List ℕ) → Outcome Keys
installed_by line level secret = installed (version_at line 1) (level_named level) (side_of (side_at line 3)) (secret_spelt secret)

-- the keys that the four words of an installing call name
abbrev pub installed_named : List ℕ → Outcome Keys
installed_named line = installed_by line (word_of 0 line 2) (word_of 0 line 4)

-- the keys that the first three words name: where the second is two words with a colon between them, of this level and secret, and
-- else of a connection ID
unfoldable pub keys_named : List ℕ → Outcome Keys
keys_named line =
    cond (eqb (word_count 58 (word_of 0 line 2)) 2)
    (installed_by line (word_of 58 (word_of 0 line 2) 0) (word_of 58 (word_of 0 line 2) 1))
    (initial_named line)
