-- Four bytes of the S-box, read as a word.
use Prim.Native.Nat.{ℕ}
use mathlib.Core.Path.{ap, ◌∙◌}
use mathlib.Core.List.{List, [], ◌∷◌}
use Rattle.octets.specs.Octets.{bytes}
use Rattle.aes_state.specs.State.{sub_word}
use Rattle.aes_word_columns.specs.Column.{byte_in}
use Rattle.aes_word_columns.proofs.Columns.{plain-is, lowest}
use Rattle.aes_word_columns.proofs.plain.Goals as goal

pub returns : goal.returns
unfolding bytes
returns c =
    let a = c.args in
    let three : ℕ → List ℕ = λ d. sub_word (byte_in 0 a.a ∷ byte_in 1 a.b ∷ byte_in 2 a.c ∷ d ∷ []) in
    plain-is _ a.k _ _ _ _ (c.sub_word.ensures ∙ ap three (lowest a.d)) c.word-column.ensures
