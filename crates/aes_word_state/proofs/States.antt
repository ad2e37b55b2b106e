-- A state by its columns: changed column by column, read from a block, written to one.
use Prim.Native.Nat.{ℕ, ◌+◌, ◌≤◌}
use mathlib.Core.Path.{◌≡◌, sym, ap, ◌∙◌}
use mathlib.Core.List.{List, ◌++◌}
use native.Mathlib.Omega.{arith}
use lib.ListN.{length, replicate}
use lib.Seq.{take-add, take_all}
use Rattle.octets.specs.Octets.{Bytes, bytes, number, part, laid}
use Rattle.octets.proofs.Parts.{part_length}
use Rattle.octets.proofs.Bytes.{part_bytes}
use Rattle.octets.proofs.Numbers.{bytes_back}
use Rattle.aes_state.specs.State.{input}

-- ---- changed
pub by-columns : (a b c d : ℕ) {p q r s : List ℕ} → bytes 4 a ≡ p → bytes 4 b ≡ q → bytes 4 c ≡ r → bytes 4 d ≡ s
    → input (bytes 4 a ++ bytes 4 b ++ bytes 4 c ++ bytes 4 d) ≡ input (p ++ q ++ r ++ s)
by-columns a b c d e f g h = rw (e, f, g, h)

-- ---- read
word_back : (s : List ℕ) (at w : ℕ) → Bytes s → at + 4 ≤ length s → w ≡ number (part s at 4) → bytes 4 w ≡ part s at 4
word_back s at w bs h e =
    ap (bytes 4) e ∙ ap (λ (n : ℕ). bytes n (number (part s at 4))) (sym (part_length s at 4 h)) ∙ bytes_back (part s at 4) (part_bytes s at 4 bs)

pub input-is : (s : List ℕ) (a b c d : ℕ) → Bytes s → length s ≡ 16 → a ≡ number (part s 0 4) → b ≡ number (part s 4 4) → c ≡ number (part s 8 4) → d ≡ number (part s 12 4)
    → bytes 4 a ++ bytes 4 b ++ bytes 4 c ++ bytes 4 d ≡ s
input-is s a b c d bs all ea eb ec ed =
    rw (
      word_back s 0 a bs (omega arith) ea,
      word_back s 4 b bs (omega arith) eb,
      word_back s 8 c bs (omega arith) ec,
      word_back s 12 d bs (omega arith) ed,
      ← (take-add 4 4 s),
      ← (take-add 8 4 s),
      ← (take-add 12 4 s),
    ) (take_all 16 s (omega arith))

-- ---- written
pub output-is : (a b c d : ℕ) {d₁ d₂ d₃ d₄ : List ℕ} → d₁ ≡ laid (replicate 16 0) 0 (bytes 4 a) → d₂ ≡ laid d₁ 4 (bytes 4 b) → d₃ ≡ laid d₂ 8 (bytes 4 c) → d₄ ≡ laid d₃ 12 (bytes 4 d)
    → d₄ ≡ bytes 4 a ++ bytes 4 b ++ bytes 4 c ++ bytes 4 d
unfolding bytes
output-is a b c d e f g h =
    h ∙ ap (λ (x : List ℕ). laid x 12 (bytes 4 d)) (g ∙ ap (λ (x : List ℕ). laid x 8 (bytes 4 c)) (f ∙ ap (λ (x : List ℕ). laid x 4 (bytes 4 b)) e))
