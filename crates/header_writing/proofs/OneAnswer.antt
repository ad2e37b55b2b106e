-- Whatever the token: two answers on who writes a field are one.
use Prim.Native.Nat.{ℕ}
use mathlib.Core.Path.{◌≡◌, sym, ◌∙◌}
use mathlib.Core.Bool.{Bool}
use mathlib.Core.List.{List}
use Rattle.std.specs.Prelude.{Option}
use Rattle.std.specs.Borrow.{Bor}
use Rattle.header_writing.specs.Answers.{WrittenBy}

pub is-written-by-once : (token : Option (Bor (List ℕ))) (level : ℕ) {r r' : Bool} → WrittenBy token level r → WrittenBy token level r' → r ≡ r'
is-written-by-once token level a b = a ∙ sym b
