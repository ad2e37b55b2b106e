-- A contract on the bytes of a column permits one word only, since a word has 32 bits.
use Prim.Native.Nat.{ℕ, ◌^◌, ◌<◌}
use mathlib.Core.Path.{◌≡◌, sym, ap, ◌∙◌}
use mathlib.Core.List.{List}
use Rattle.octets.specs.Octets.{bytes, number}
use Rattle.octets.proofs.Numbers.{number-back}

pub column-once : {a b : ℕ} {s : List ℕ} → a < 2 ^ 32 → b < 2 ^ 32 → bytes 4 a ≡ s → bytes 4 b ≡ s → a ≡ b
column-once {a} {b} small small' p q = sym (number-back 4 a small) ∙ ap number (p ∙ sym q) ∙ number-back 4 b small'
