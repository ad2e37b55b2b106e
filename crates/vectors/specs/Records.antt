-- The key record of a line on packets. A colon is 58.
use Rattle.std.specs.Prelude.{ℕ, ◌%◌, cond, List, eqb}
use Rattle.digits_numbers.specs.Numbers.{number_of}
use Rattle.terminal_words.specs.Words.{word_of, word_count}
use Rattle.console.specs.Fields.{value_or0}
use Rattle.protection.specs.Protection.{Keys}
use Rattle.keys_expansion.specs.Expansion.{keys_from}
use Rattle.keys.specs.Answers.{keys_given}
use Rattle.wicket_words.specs.Named.{version_at, secret_spelt, initial_named}

-- the last byte of the number that a word spells
abbrev pub byte_spelt : List ℕ → ℕ
byte_spelt t = value_or0 (number_of t) % 256

-- where the second word is two with a colon between them, this level byte and the keys of this secret, whatever the level and the
-- version name; else the Initial keys of a connection ID, and blank ones where they are refused
unfoldable pub record_named : List ℕ → Keys
record_named line =
    cond (eqb (word_count 58 (word_of 0 line 2)) 2)
    (keys_from (version_at line 1) (byte_spelt (word_of 58 (word_of 0 line 2) 0)) (secret_spelt (word_of 58 (word_of 0 line 2) 1)))
    (keys_given (initial_named line))
