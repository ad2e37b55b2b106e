-- Two blocks, one after the other.
use Prim.Native.Nat.{ℕ, ◌+◌}
use mathlib.Core.Path.{◌≡◌, sym, ap₂}
use mathlib.Core.List.{List, ◌++◌}
use lib.ListN.{replicate}
use Rattle.octets.specs.Octets.{laid}
use Rattle.octets.proofs.Buffers.{laid-two}
use Rattle.aes_byte_rounds.specs.Cipher.{encrypted}
use Rattle.aes_byte_rounds.proofs.Laws.{encrypted-length}

pub pair_is : (w one two : List ℕ) {a b d₁ d₂ : List ℕ} → a ≡ encrypted w one → b ≡ encrypted w two → d₁ ≡ laid (replicate 32 0) 0 a → d₂ ≡ laid d₁ 16 b
    → d₂ ≡ encrypted w one ++ encrypted w two
pair_is w one two ea eb e f =
    rw (f, e, ea, eb) (laid-two (replicate 32 0) (encrypted w one) (encrypted w two) 16 (sym (encrypted-length w one)) (ap₂ (λ (m n : ℕ). m + n) (encrypted-length w one) (encrypted-length w two)))
