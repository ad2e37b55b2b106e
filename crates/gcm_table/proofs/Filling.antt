-- A table is filled entry by entry: those of a run are sums of the multiples by 1, 2, 4 and 8.
use Prim.Native.Nat.{ℕ, ◌+◌, ◌*◌, ◌/◌, ◌%◌, ◌<◌, ◌≤◌}
use mathlib.Core.Path.{◌≡◌, sym, ap, ap₂, ◌∙◌}
use mathlib.Core.List.{List}
use native.Mathlib.Nat.{zero-mul, one-mul}
use native.Mathlib.Omega.{arith}
use borrow.Author.Count.{below_more}
use lib.Bits.{bit_xor, xor_zero_r}
use lib.ListN.{length, set}
use lib.Seq.{get_or-set_same, get_or-set_other}
use Rattle.gcm_field.specs.Field.{bit, next, steps, nexts, num}
use Rattle.gcm_field.specs.declared.Block.{Block}
use Rattle.gcm_table.specs.Table.{zeros, entry_of, Right, Filled, Doubled, key_of, Table}
use Rattle.gcm_field.proofs.Linear.{nexts-none, steps-xor}

-- a table with entry e written
module _ (table : List Block) (e : ℕ) (b : Block) (len : length table ≡ 128) (l : e < 128) where
  here : entry_of (set table e b) e ≡ num b
  here = ap num (get_or-set_same table e b zeros (omega arith))

  kept : (j : ℕ) → j < e → entry_of (set table e b) j ≡ entry_of table j
  kept j k = ap num (get_or-set_other table e j b zeros (λ r. omega arith))

  pub filled_more : (h : ℕ) → num b ≡ steps 4 (e % 16) 0 (nexts (e / 16 * 16) h) → Filled h table e → Filled h (set table e b) (e + 1)
  filled_more h q f = below_more (Right h (set table e b)) e (λ j k. kept j k ∙ f j k) (here ∙ q)

-- a turn of the loop that doubles a run: the entry of i + k is the sum of those of i and k, which have no bit in common
module _ (h : ℕ) (table table' : List Block) (e i k w : ℕ) (b : Block) (len : length table ≡ 128) (z : e % 16 ≡ 0) (l : e < 128) (s : i ≤ 8) (less : k < i) (x : bit_xor i k ≡ i + k) where
  sum-entry : num b ≡ bit_xor w (entry_of table (e + k)) → w ≡ steps 4 i 0 (nexts e h) → Filled h table (e + i + k)
      → num b ≡ steps 4 ((e + i + k) % 16) 0 (nexts ((e + i + k) / 16 * 16) h)
  sum-entry eb ew f =
      let bits : (e + k) % 16 ≡ k = omega arith in
      let place : (e + k) / 16 * 16 ≡ e = omega arith in
      let bits' : i + k ≡ (e + i + k) % 16 = omega arith in
      let place' : e ≡ (e + i + k) / 16 * 16 = omega arith in
      let v : ℕ = nexts e h in
      eb
      ∙ ap₂ bit_xor ew (f (e + k) (omega arith) ∙ ap₂ (λ (m n : ℕ). steps 4 m 0 (nexts n h)) bits place)
      ∙ sym (steps-xor 4 i k v)
      ∙ ap (λ (m : ℕ). steps 4 m 0 v) x
      ∙ ap₂ (λ (m n : ℕ). steps 4 m 0 (nexts n h)) bits' place'

  pub double-turn : table' ≡ set table (e + i + k) b → num b ≡ bit_xor w (entry_of table (e + k)) → w ≡ steps 4 i 0 (nexts e h)
      → Filled h table (e + i + k) → Filled h table' (e + i + (k + 1))
  double-turn et eb ew f =
      let on : e + i + (k + 1) ≡ e + i + k + 1 = omega arith in
      rw (et, on) (filled_more table (e + i + k) b len (omega arith) h (sum-entry eb ew f) f)

-- the multiples by 0, 1, 2, 4 and 8
pub times-0 : (v : ℕ) → steps 4 0 0 v ≡ 0
unfolding steps bit
times-0 v = simp (zero-mul, xor_zero_r)

pub times-1 : (v : ℕ) → steps 4 1 0 v ≡ next (next (next v))
unfolding steps bit
times-1 v = simp (one-mul, zero-mul, xor_zero_r)

pub times-2 : (v : ℕ) → steps 4 2 0 v ≡ next (next v)
unfolding steps bit
times-2 v = simp (one-mul, zero-mul, xor_zero_r)

pub times-4 : (v : ℕ) → steps 4 4 0 v ≡ next v
unfolding steps bit
times-4 v = simp (one-mul, zero-mul, xor_zero_r)

pub times_8 : (v : ℕ) → steps 4 8 0 v ≡ v
unfolding steps bit
times_8 v = simp (one-mul, zero-mul, xor_zero_r)

-- the sixteen entries of a run: that of 0, and four times as many again
pub run-filled : (h : ℕ) (t t0 t1 t2 t4 t8 : List Block) (e v v1 v2 v3 : ℕ) → length t ≡ 128 → e % 16 ≡ 0 → e < 128 → v1 ≡ next v → v2 ≡ next v1 → v3 ≡ next v2
    → t0 ≡ set t e zeros → Doubled t0 t1 e 1 v3 → Doubled t1 t2 e 2 v2 → Doubled t2 t4 e 4 v1 → Doubled t4 t8 e 8 v → v ≡ nexts e h → Filled h t e → Filled h t8 (e + 16)
run-filled h t t0 t1 t2 t4 t8 e v v1 v2 v3 len z l e1 e2 e3 et d1 d2 d4 d8 ev f =
    let zero-entry : num zeros ≡ steps 4 (e % 16) 0 (nexts (e / 16 * 16) h) = rw z (sym (times-0 (nexts (e / 16 * 16) h))) in
    let f0 : Filled h t0 (e + 1) = rw et (filled_more t e zeros len l h zero-entry f) in
    let two : v2 ≡ next (next v) = e2 ∙ ap next e1 in
    let f1 = d1 h (e3 ∙ ap next two ∙ ap (λ (x : ℕ). next (next (next x))) ev ∙ sym (times-1 (nexts e h))) f0 in
    let f2 = d2 h (two ∙ ap (λ (x : ℕ). next (next x)) ev ∙ sym (times-2 (nexts e h))) (λ j k. f1 j (omega arith)) in
    let f4 = d4 h (e1 ∙ ap next ev ∙ sym (times-4 (nexts e h))) (λ j k. f2 j (omega arith)) in
    let f8 = d8 h (ev ∙ sym (times_8 (nexts e h))) (λ j k. f4 j (omega arith)) in
    λ j k. f8 j (omega arith)

-- the whole table
module _ (h : ℕ) (table : List Block) (f : Filled h table 128) where
  pub filled-key : key_of table ≡ h
  filled-key = f 8 (omega arith) ∙ ap (steps 4 8 0) (nexts-none h) ∙ times_8 h

  pub filled-table : Table table
  filled-table = record { rule = λ e l. f e l ∙ ap (λ (k : ℕ). steps 4 (e % 16) 0 (nexts (e / 16 * 16) k)) (sym filled-key) }
