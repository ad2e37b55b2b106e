-- AES on words: a state as four columns (FIPS 197 section 3.4). A column is a word, its byte in row 0 the most significant.
use Rattle.std.specs.Prelude.{ℕ, List, ◌++◌}
use Rattle.octets.specs.Octets.{bytes}
use Rattle.aes_state.specs.State.{State, input}
use Rattle.aes_word_state.specs.declared.Columns.{Columns}

-- the block that four columns spell
abbrev pub spelt : Columns → List ℕ
spelt s = bytes 4 s.a ++ bytes 4 s.b ++ bytes 4 s.c ++ bytes 4 s.d

-- the state that they are
abbrev pub state_of : Columns → State
state_of s = input (spelt s)
