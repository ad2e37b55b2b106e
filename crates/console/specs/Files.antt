-- Files that a call names.
use Rattle.std.specs.Prelude.{Option, Some, None, ⊤, ℕ, Bool, ◌||◌, List, eqb, get_or}
use Rattle.terminal_words.specs.Words.{word_count}
use Rattle.console.specs.declared.files.Readable.{Readable}
use Rattle.console.specs.declared.files.Readable.TheVariants.{StandardInput, File}

-- whether a line is a comment, which # starts, or has no word
unfoldable pub is_comment : List ℕ → Bool
is_comment t = eqb (word_count 32 t) 0 || eqb (get_or t 0 0) 35

-- whether what is to be read is there, and is standard input
abbrev pub IsStandardInput : {S F : Type 0} → Option (Readable S F) → Type 0
IsStandardInput (Some (StandardInput _)) = ⊤
IsStandardInput (Some (File _)) = ⊥
IsStandardInput None = ⊥
