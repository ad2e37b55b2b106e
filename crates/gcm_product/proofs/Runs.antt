-- The product by the runs of sixteen bits: four bits of each run at a time, all of them by one shift.
use Prim.Native.Nat.{ℕ, zero, suc, ◌+◌, ◌*◌, ◌/◌, ◌%◌, ◌^◌, ◌<◌, ◌≤◌}
use mathlib.Core.Path.{◌≡◌, refl, sym, ap, ap₂, ◌∙◌}
use mathlib.Core.List.{List}
use native.Mathlib.Nat.{add_comm, mul-suc}
use native.Mathlib.Omega.{arith}
use lib.Bits.{bit_xor, xor_zero_r}
use lib.Pow.{shr-shr}
use Rattle.octets.proofs.Xor.{xor_assoc}
use Rattle.gcm_field.specs.Field.{steps, ◌•◌, nexts}
use Rattle.gcm_product.specs.Runs.{runs}
use Rattle.gcm_field.specs.declared.Block.{Block}
use Rattle.gcm_table.specs.Table.{entry_of, Filled}
use Rattle.gcm_field.proofs.Linear.{xor-swap, nexts-xor, nexts-zero, nexts-add, steps-sum, steps-add, steps-above, steps_low}

pub runs_none : (p w v : ℕ) → runs 0 p w v ≡ 0
unfolding runs steps
runs_none zero w v = refl
runs_none (suc p) w v = runs_none p w (nexts 16 v)

-- m bits of each run are done, and four more come
pub runs-more : (m p w v : ℕ) → bit_xor (nexts 4 (runs m p w v)) (runs 4 p (w / 2 ^ m) v) ≡ runs (m + 4) p w v
unfolding runs
runs-more m zero w v = ap (λ (z : ℕ). bit_xor z 0) (nexts-zero 4)
runs-more m (suc p) w v =
    let a : ℕ = w / 2 ^ (16 * p) in
    let same : w / 2 ^ m / 2 ^ (16 * p) ≡ a / 2 ^ m = shr-shr w m (16 * p) ∙ ap (λ (n : ℕ). w / 2 ^ n) (add_comm m (16 * p)) ∙ sym (shr-shr w (16 * p) m) in
    ap₂ (λ (x y : ℕ). bit_xor x (bit_xor (steps 4 y 0 v) (runs 4 p (w / 2 ^ m) (nexts 16 v)))) (nexts-xor 4 (steps m a 0 v) (runs m p w (nexts 16 v))) same
    ∙ xor-swap (nexts 4 (steps m a 0 v)) (nexts 4 (runs m p w (nexts 16 v))) (steps 4 (a / 2 ^ m) 0 v) (runs 4 p (w / 2 ^ m) (nexts 16 v))
    ∙ ap₂ bit_xor (sym (steps-above 4 m a v)) (runs-more m p w (nexts 16 v))

-- all sixteen bits of each run are all bits
runs-all : (p w v : ℕ) → runs 16 p w v ≡ steps (16 * p) w 0 v
unfolding runs steps
runs-all zero w v = refl
runs-all (suc p) w v =
    ap (bit_xor (steps 16 (w / 2 ^ (16 * p)) 0 v)) (runs-all p w (nexts 16 v))
    ∙ sym (steps-sum (16 * p) w (steps 16 (w / 2 ^ (16 * p)) 0 v) (nexts 16 v))
    ∙ sym (steps-add 16 (16 * p) w 0 v)
    ∙ ap (λ (n : ℕ). steps n w 0 v) (add_comm 16 (16 * p) ∙ sym (mul-suc 16 p))

-- the loop over the four bits: z holds those below n of the runs of both words
abbrev pub Partly : ℕ → ℕ → ℕ → ℕ → ℕ → Type 0
Partly h hi lo n z = z ≡ bit_xor (runs n 4 hi h) (runs n 4 lo (nexts 64 h))

module _ (h hi lo : ℕ) where
  pub product-start : Partly h hi lo 0 0
  product-start = sym (ap₂ bit_xor (runs_none 4 hi h) (runs_none 4 lo (nexts 64 h)))

  pub product-turn : (n z : ℕ) → Partly h hi lo n z
      → Partly h hi lo (n + 4) (bit_xor (nexts 4 z) (bit_xor (runs 4 4 (hi / 2 ^ n) h) (runs 4 4 (lo / 2 ^ n) (nexts 64 h))))
  product-turn n z e =
      let a : ℕ = runs n 4 hi h in
      let b : ℕ = runs n 4 lo (nexts 64 h) in
      ap (λ (y : ℕ). bit_xor y (bit_xor (runs 4 4 (hi / 2 ^ n) h) (runs 4 4 (lo / 2 ^ n) (nexts 64 h)))) (ap (nexts 4) e ∙ nexts-xor 4 a b)
      ∙ xor-swap (nexts 4 a) (nexts 4 b) (runs 4 4 (hi / 2 ^ n) h) (runs 4 4 (lo / 2 ^ n) (nexts 64 h))
      ∙ ap₂ bit_xor (runs-more n 4 hi h) (runs-more n 4 lo (nexts 64 h))

  pub product-end : lo < 2 ^ 64 → (z : ℕ) → Partly h hi lo 16 z → z ≡ (hi * 2 ^ 64 + lo) • h
  unfolding ◌•◌
  product-end l z e =
      let x : ℕ = hi * 2 ^ 64 + lo in
      let high : hi ≡ x / 2 ^ 64 = omega arith in
      let low : lo ≡ x % 2 ^ 64 = omega arith in
      e
      ∙ ap₂ bit_xor (runs-all 4 hi h) (runs-all 4 lo (nexts 64 h))
      ∙ sym (steps-sum 64 lo (steps 64 hi 0 h) (nexts 64 h))
      ∙ ap₂ (λ (p q : ℕ). steps 64 p (steps 64 q 0 h) (nexts 64 h)) low high
      ∙ steps_low 64 x (steps 64 (x / 2 ^ 64) 0 h) (nexts 64 h)
      ∙ sym (steps-add 64 64 x 0 h)

-- the entry for the four low bits of y in the run that starts at entry e
run-entry : (h : ℕ) (table : List Block) (e y b : ℕ) → Filled h table 128 → e % 16 ≡ 0 → e < 128 → b ≡ entry_of table (e + y % 16) → b ≡ steps 4 y 0 (nexts e h)
run-entry h table e y b f z l eb =
    let inside : e + y % 16 < 128 = omega arith in
    let bits : (e + y % 16) % 16 ≡ y % 16 = omega arith in
    let place : (e + y % 16) / 16 * 16 ≡ e = omega arith in
    eb ∙ f (e + y % 16) inside ∙ ap₂ (λ (i j : ℕ). steps 4 i 0 (nexts j h)) bits place ∙ steps_low 4 y 0 (nexts e h)

module _ (h : ℕ) (table : List Block) (e w a b c d : ℕ) (f : Filled h table 128) (z : e % 16 ≡ 0) (l : e ≤ 64) where
  -- the four entries' sum
  pub four_runs : a ≡ entry_of table (e + w / 2 ^ 48 % 16) → b ≡ entry_of table (e + 16 + w / 2 ^ 32 % 16) → c ≡ entry_of table (e + 32 + w / 2 ^ 16 % 16)
      → d ≡ entry_of table (e + 48 + w / 2 ^ 0 % 16) → bit_xor (bit_xor a b) (bit_xor c d) ≡ runs 4 4 w (nexts e h)
  unfolding runs
  four_runs ea eb ec ed =
      let on : (k : ℕ) → nexts (e + k) h ≡ nexts k (nexts e h) = λ k. nexts-add e k h in
      let v : ℕ = nexts e h in
      let sa = run-entry h table e (w / 2 ^ 48) a f z (omega arith) ea in
      let sb = run-entry h table (e + 16) (w / 2 ^ 32) b f (omega arith) (omega arith) eb ∙ ap (steps 4 (w / 2 ^ 32) 0) (on 16) in
      let sc = run-entry h table (e + 32) (w / 2 ^ 16) c f (omega arith) (omega arith) ec ∙ ap (steps 4 (w / 2 ^ 16) 0) (on 32 ∙ nexts-add 16 16 v) in
      let sd = run-entry h table (e + 48) (w / 2 ^ 0) d f (omega arith) (omega arith) ed ∙ ap (steps 4 (w / 2 ^ 0) 0) (on 48 ∙ nexts-add 16 32 v ∙ nexts-add 16 16 (nexts 16 v)) in
      xor_assoc a b (bit_xor c d)
      ∙ ap₂ bit_xor sa (ap₂ bit_xor sb (ap₂ bit_xor sc (sd ∙ sym (xor_zero_r (steps 4 (w / 2 ^ 0) 0 (nexts 16 (nexts 16 (nexts 16 v))))))))
