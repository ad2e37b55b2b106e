-- A byte added at its place of a block that is two words.
use Prim.Native.Nat.{ℕ, ◌+◌, ◌-◌, ◌*◌, ◌%◌, ◌^◌, ◌≤◌, ◌<◌}
use mathlib.Core.Path.{◌≡◌, sym, ap, ap₂, ◌∙◌}
use native.Mathlib.Nat.{add-zero, mul_assoc}
use native.Mathlib.Omega.{arith}
use lib.Bits.{bit_xor, xor_block, xor_zero_r}
use lib.Pow.{shl_exact, pow-add}
use Rattle.gcm_hash.specs.Hash.{put}

module _ (hi lo k b : ℕ) (l : lo < 2 ^ 64) (byte : b < 256) where
  pub put-high : k < 8 → bit_xor hi (b * 2 ^ (56 - 8 * k) % 2 ^ 64) * 2 ^ 64 + lo ≡ put (hi * 2 ^ 64 + lo) k b
  unfolding put
  put-high h =
      let e : 56 - 8 * k + 64 ≡ 8 * (15 - k) = omega arith in
      let x : ℕ = b * 2 ^ (56 - 8 * k) in
      ap₂ (λ (p q : ℕ). bit_xor hi p * 2 ^ 64 + q) (shl_exact 8 (56 - 8 * k) 64 byte (omega arith)) (sym (xor_zero_r lo))
      ∙ sym (xor_block 64 hi x lo 0 l (omega arith))
      ∙ ap (bit_xor (hi * 2 ^ 64 + lo))
      (add-zero (x * 2 ^ 64)
      ∙ mul_assoc b (2 ^ (56 - 8 * k)) (2 ^ 64)
      ∙ ap (λ (m : ℕ). b * m) (sym (pow-add 2 (56 - 8 * k) 64))
      ∙ ap (λ (m : ℕ). b * 2 ^ m) e)

  pub put_low : 8 ≤ k → k < 16 → hi * 2 ^ 64 + bit_xor lo (b * 2 ^ (120 - 8 * k) % 2 ^ 64) ≡ put (hi * 2 ^ 64 + lo) k b
  unfolding put
  put_low h8 h16 =
      let e : 120 - 8 * k ≡ 8 * (15 - k) = omega arith in
      let x : ℕ = b * 2 ^ (120 - 8 * k) % 2 ^ 64 in
      let none : 0 * 2 ^ 64 + x ≡ x = omega arith in
      ap (λ (p : ℕ). p * 2 ^ 64 + bit_xor lo x) (sym (xor_zero_r hi))
      ∙ sym (xor_block 64 hi 0 lo x l (omega arith))
      ∙ ap (bit_xor (hi * 2 ^ 64 + lo)) (none ∙ shl_exact 8 (120 - 8 * k) 64 byte (omega arith) ∙ ap (λ (m : ℕ). b * 2 ^ m) e)
