-- Taking the mask off has one answer: first byte, count and short number are fixed.
use Prim.Native.Nat.{ℕ, ◌+◌, ◌%◌}
use mathlib.Core.Path.{◌≡◌, sym, ap, ◌∙◌}
use mathlib.Core.List.{List}
use Rattle.octets.specs.Octets.{number, part}
use Rattle.octets.proofs.Numbers.{byte_power, number-back}
use Rattle.header_forms.specs.Forms.{Form}
use Rattle.protection.specs.Protection.{Keys, on_number}
use Rattle.protection.specs.Clear.{mask_of}
use Rattle.protection.specs.AesGcm.{aes_gcm}
use Rattle.open_unmasking.specs.Unmasking.{Unmasks}
use Rattle.open_unmasking.specs.declared.Bare.{Bare}

pub unmask-once : {form : Form} {k : Keys} {d : List ℕ} {place : ℕ} {b b' : Bare} → Unmasks form k d place b → Unmasks form k d place b' → b ≡ b'
unmask-once {form} {k} {d} {place} {b} {b'} u u' =
    let first : b.first ≡ b'.first = u.bare.its-first ∙ sym u'.bare.its-first in
    let count : b.count ≡ b'.count = u.bare.its-length ∙ ap (λ (f : ℕ). f % 4 + 1) first ∙ sym u'.bare.its-length in
    let short : b.truncated.0 ≡ b'.truncated.0
    = spelled b u ∙ ap (λ (n : ℕ). number (on_number (mask_of aes_gcm k.hp d place) (part d place n))) count ∙ sym (spelled b' u') in
    ap (λ (f : ℕ). record { first = f; count = b.count; truncated = b.truncated }) first
    ∙ ap (λ (n : ℕ). record { first = b'.first; count = n; truncated = b.truncated }) count
    ∙ ap (λ (t : ℕ). record { first = b'.first; count = b'.count; truncated = record { 0 = t } }) short
  where
    spelled : (c : Bare) → Unmasks form k d place c → c.truncated.0 ≡ number (on_number (mask_of aes_gcm k.hp d place) (part d place c.count))
    spelled c w = sym (number-back c.count c.truncated.0 (rw (byte_power c.count) w.small)) ∙ ap number w.bare.its-number
