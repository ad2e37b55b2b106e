-- A contract on the state of four columns permits these columns only, since their words have 32 bits.
use Prim.Native.Nat.{ℕ, ◌^◌, ◌<◌}
use mathlib.Core.Path.{◌≡◌, refl, sym, ap, ap₂, ◌∙◌}
use Rattle.octets.specs.Octets.{bytes, part}
use Rattle.aes_state.specs.State.{State, output}
use Rattle.aes_word_columns.proofs.OneAnswer.{column-once}
use Rattle.aes_word_state.specs.Columns.{state_of}
use Rattle.aes_word_state.specs.declared.Columns.{Columns}

abbrev made : ℕ → ℕ → ℕ → ℕ → Columns
made a b c d = record { a = a; b = b; c = c; d = d }

-- each column is a word
abbrev Words : Columns → Type 0
Words s = (s.a < 2 ^ 32) × (s.b < 2 ^ 32) × (s.c < 2 ^ 32) × (s.d < 2 ^ 32)

pub state-once : {s t : Columns} {x : State} → Words s → Words t → state_of s ≡ x → state_of t ≡ x → s ≡ t
unfolding bytes
state-once {s} {t} small small' p q =
    let same : (i : ℕ) → part (output (state_of s)) i 4 ≡ part (output (state_of t)) i 4 = λ i. ap (λ (y : State). part (output y) i 4) (p ∙ sym q) in
    let a = column-once small.0 small'.0 (same 0) refl in
    let b = column-once small.1 small'.1 (same 4) refl in
    let c = column-once small.2 small'.2 (same 8) refl in
    let d = column-once small.3 small'.3 (same 12) refl in
    ap₂ (λ (x y : ℕ). made x y s.c s.d) a b ∙ ap₂ (made t.a t.b) c d
