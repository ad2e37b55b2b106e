-- A word of a call that keys come of, judged by the name that the manual has for it. A colon is 58.
use Rattle.std.specs.Prelude.{ℕ, Bool, cond, ◌&&◌, ◌||◌, List, eqb, length}
use Rattle.octets.specs.Octets.{same}
use Rattle.octets.specs.Text.{ascii}
use Rattle.terminal_words.specs.Words.{word_of, word_count}
use Rattle.console_words.specs.Words.{is_hex, is_right}

-- whether it names a level
unfoldable pub is_level : List ℕ → Bool
is_level t = same t (ascii "initial") || (same t (ascii "0-rtt") || same t (ascii "handshake"))

-- whether it is a secret: 32 bytes, two hex digits each
unfoldable pub is_secret : List ℕ → Bool
is_secret t = eqb (length t) 64 && is_hex t

-- whether it is a level and a secret with a colon between them, or else a connection ID
unfoldable pub is_origin : List ℕ → Bool
is_origin t = cond (eqb (word_count 58 t) 2) (is_level (word_of 58 t 0) && is_secret (word_of 58 t 1)) (is_hex t)

-- whether a word is what its name asks
unfoldable pub is_asked : List ℕ → List ℕ → Bool
is_asked t name =
    cond (same name (ascii "LEVEL")) (is_level t)
    (cond (same name (ascii "SECRET")) (is_secret t)
    (cond (same name (ascii "ID|LEVEL:SECRET")) (is_origin t) (is_right t name)))
