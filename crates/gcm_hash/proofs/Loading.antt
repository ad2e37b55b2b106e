-- Sixteen bytes as two words.
use Prim.Native.Nat.{ℕ, ◌+◌, ◌-◌, ◌*◌, ◌^◌, ◌≤◌}
use mathlib.Core.Path.{◌≡◌, sym, ap, ◌∙◌}
use mathlib.Core.List.{List}
use native.Mathlib.Omega.{arith}
use lib.ListN.{length, take, drop, length-drop}
use lib.Seq.{drop-drop, take-add}
use Rattle.octets.specs.Octets.{number}
use Rattle.octets.proofs.Parts.{part_length}
use Rattle.octets.proofs.Numbers.{number_append}

-- two parts of eight bytes are one of sixteen
pub two-words : (s : List ℕ) (i : ℕ) → i + 16 ≤ length s
    → number (take (i + 8 - i) (drop i s)) * 2 ^ 64 + number (take (i + 16 - (i + 8)) (drop (i + 8) s)) ≡ number (take 16 (drop i s))
two-words s i l =
    let t : List ℕ = drop i s in
    let one : i + 8 - i ≡ 8 = omega arith in
    let two : i + 16 - (i + 8) ≡ 8 = omega arith in
    let len : length (take 8 (drop 8 t)) ≡ 8 = part_length t 8 8 (rw (length-drop i s) (omega arith)) in
    rw (one, two, ← (drop-drop 8 i s))
    (ap (λ (n : ℕ). number (take 8 t) * 2 ^ (8 * n) + number (take 8 (drop 8 t))) (sym len)
    ∙ sym (number_append (take 8 t) (take 8 (drop 8 t)))
    ∙ ap number (sym (take-add 8 8 t)))
