-- A call, as a line of words, judged by the manual: a line for each command, with a name for each word behind it. Zeros (0) stand
-- between the words of a call, line feeds (10) between the manual's lines, and blanks (32) between the words of one.
use Rattle.std.specs.Prelude.{ℕ, ◌-◌, Bool, true, false, cond, ◌&&◌, List, [], ◌∷◌, eqb, leb, length}
use Rattle.octets.specs.Octets.{same}
use Rattle.terminal_words.specs.Words.{word_of, word_count, words_from}
use Rattle.console_keys.specs.Words.{is_asked}

-- whether there is a word for each name, and each is what its name asks
unfoldable pub are_right : List (List ℕ) → List (List ℕ) → Bool
are_right [] [] = true
are_right [] (n ∷ ns) = false
are_right (t ∷ ts) [] = false
are_right (t ∷ ts) (n ∷ ns) = is_asked t n && are_right ts ns

-- the first of some lines whose second word is the command: the first is the program's name. Where there is none, nothing
unfoldable pub usage_among : List ℕ → List (List ℕ) → List ℕ
usage_among command [] = []
usage_among command (u ∷ us) = cond (same (word_of 32 u 1) command) u (usage_among command us)

-- the manual's line on a command
abbrev pub usage_of : List ℕ → List ℕ → List ℕ
usage_of manual command = usage_among command (words_from 10 manual 0)

-- whether a call is as a line of the manual has it: its words behind the command by the names behind the command's
unfoldable pub made_as : List ℕ → List ℕ → Bool
made_as line usage = leb 1 (length usage) && are_right (words_from 0 line 1) (words_from 32 usage 2)

-- whether a call is as the manual has it
abbrev pub well_made : List ℕ → List ℕ → Bool
well_made line manual = made_as line (usage_of manual (word_of 0 line 0))

-- whether there are as many words behind a command as names
unfoldable pub enough : List ℕ → List ℕ → Bool
enough line usage = eqb (word_count 0 line - 1) (word_count 32 usage - 2)
