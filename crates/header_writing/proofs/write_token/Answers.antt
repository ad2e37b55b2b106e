-- A token behind its length.
use Prim.Native.Nat.{ℕ, ◌+◌, ◌≤◌}
use mathlib.Core.Path.{sym, ap, subst, ◌∙◌}
use mathlib.Core.List.{List}
use native.Mathlib.Omega.{arith}
use lib.ListN.{length, length-append}
use Rattle.std.specs.Prelude.{Option}
use Rattle.std.specs.Borrow.{Bor}
use Rattle.octets.specs.Octets.{laid}
use Rattle.octets.proofs.Buffers.{laid_more}
use Rattle.integers_writing.specs.Written.{smallest}
use Rattle.header_writing.specs.Written.{token_bytes}
use Rattle.header_writing.specs.Answers.{token_of}
use Rattle.header_writing.proofs.write_token.Goals as goal

pub returns-in-Some : goal.returns-in-Some
returns-in-Some c =
    let a = c.args in
    let token = c.in-Some.token.now in
    let fits = subst (λ (t : Option (Bor (List ℕ))). a.at + length (token_bytes (token_of t)) ≤ length a.buffer.now) c.in-Some.is c.requires.1 in
    let both = length-append (smallest (length token)) token in
    let size = c.smallest_form in
    c.copy.ensures ∙ ap (λ (d : List ℕ). laid d (a.at + size.result) token) c.write_smallest.ensures
    ∙ laid_more a.buffer.now a.at (smallest (length token)) token (a.at + size.result) (omega (arith, fits)) (ap (λ (n : ℕ). a.at + n) size.ensures)
    ∙ ap (λ (t : Option (Bor (List ℕ))). laid a.buffer.now a.at (token_bytes (token_of t))) (sym c.in-Some.is)
