-- Words by their bytes: added, turned, and put together to a column of a round.
use Prim.Native.Nat.{ℕ, ◌+◌, ◌-◌, ◌*◌, ◌/◌, ◌%◌, ◌^◌, ◌<◌}
use mathlib.Core.Path.{◌≡◌, refl, sym, ap, ap₂, ◌∙◌}
use mathlib.Core.List.{List, [], ◌∷◌, ◌++◌}
use native.Mathlib.Nat.{mod-lt, mul_comm, div-one, div-add-mod}
use native.Mathlib.Omega.{arith}
use lib.Bits.{bit_xor, xor_shr, xor_mod, xor_comm}
use lib.ListN.{length, get_or, take, drop}
use lib.Pow.{pow_pos, shr_lt}
use lib.Seq.{take_at, drop_at}
use Rattle.octets.specs.Octets.{bytes, number, part}
use Rattle.octets.proofs.Numbers.{bytes-length, byte_power, bytes-append, bytes_back}
use Rattle.octets.proofs.Xor.{xor_assoc}
use Rattle.sha256_words.specs.Words.{ROTR}
use Rattle.aes_s_box.specs.Field.{◌⊕◌, ◌•◌}
use Rattle.aes_s_box.specs.Box.{s_box}
use Rattle.aes_s_box.proofs.Bytes.{s_box-lt}
use Rattle.aes_state.specs.State.{sum, sub_word}
use Rattle.aes_state.proofs.Steps.{four, row-bytes}
use Rattle.aes_mixing.specs.Mixing.{mixed, mixed_column}
use Rattle.aes_word_table.specs.Table.{spread, entry}
use Rattle.aes_word_table.proofs.Entries.{entry-bytes, entry_lt}
use Rattle.aes_word_columns.specs.Column.{byte_in}

-- ---- added
byte-xor : (x y k : ℕ) → bit_xor x y / 256 ^ k % 256 ≡ x / 256 ^ k % 256 ⊕ y / 256 ^ k % 256
byte-xor x y k = rw (byte_power k, xor_shr x y (8 * k)) (xor_mod (x / 2 ^ (8 * k)) (y / 2 ^ (8 * k)) 8)

pub bytes-xor : (x y : ℕ) → bytes 4 (bit_xor x y) ≡ sum (bytes 4 x) (bytes 4 y)
unfolding bytes
bytes-xor x y = four (byte-xor x y 3) (byte-xor x y 2) (byte-xor x y 1) (byte-xor x y 0)

added : (x y : ℕ) {u v : List ℕ} → bytes 4 x ≡ u → bytes 4 y ≡ v → bytes 4 (x ⊕ y) ≡ sum u v
added x y e f = bytes-xor x y ∙ ap₂ sum e f

-- ---- turned: the k low bytes go to the top, before the m others
abbrev turn : ℕ → List ℕ → List ℕ
turn m s = drop m s ++ take m s

turned : (k m x : ℕ) → k + m ≡ 4 → x < 2 ^ 32 → bytes 4 (ROTR (8 * k) x) ≡ turn m (bytes 4 x)
unfolding ROTR
turned k m x all small =
    let low : ℕ = x % 2 ^ (8 * k) in
    let high : ℕ = x / 2 ^ (8 * k) in
    let l : List ℕ = bytes k low in
    let h : List ℕ = bytes m high in
    let size : 32 ≡ 8 * m + 8 * k = omega arith in
    let rest : 32 - 8 * k ≡ 8 * m = omega arith in
    let round : m + k ≡ 4 = omega arith in
    let high_lt : high < 2 ^ (8 * m) = shr_lt (8 * m) (8 * k) (rw (ap (λ (n : ℕ). 2 ^ n) size) at small) in
    let low-lt : low < 2 ^ (8 * k) = mod-lt x (pow_pos (8 * k)) in
    let whole : high * 2 ^ (8 * k) + low ≡ x = ap (λ (n : ℕ). n + low) (mul_comm high (2 ^ (8 * k))) ∙ div-add-mod x (2 ^ (8 * k)) in
    let is : bytes 4 x ≡ h ++ l = ap₂ bytes (sym round) (sym whole) ∙ bytes-append m k high low low-lt in
    let here : length h ≡ m = bytes-length m high in
    ap₂ (λ (n e : ℕ). bytes n (low * 2 ^ e + high)) (sym all) rest
    ∙ bytes-append k m low high high_lt
    ∙ sym (ap (turn m) is ∙ ap₂ (λ (a b : List ℕ). a ++ b) (drop_at h l m here) (take_at h l m here))

-- ---- put together
-- the first of four goes last
around : (a b c d : ℕ) → a ⊕ b ⊕ c ⊕ d ≡ b ⊕ c ⊕ d ⊕ a
around a b c d = ap (λ (x : ℕ). x ⊕ d) (xor_assoc a b c) ∙ xor_assoc a (b ⊕ c) d ∙ xor_comm a (b ⊕ c ⊕ d)

-- what four bytes add to their column, each turned to its row, is the column mixed
spread-is : (a b c d : ℕ) (k : List ℕ) → sum (sum (sum (sum (spread a) (turn 3 (spread b))) (turn 2 (spread c))) (turn 1 (spread d))) k ≡ sum (mixed_column (a ∷ b ∷ c ∷ d ∷ [])) k
unfolding mixed
spread-is a b c d k =
    four refl
    (key 1 (around a (2 • b) (3 • c) d))
    (key 2 (around a b (2 • c) (3 • d) ∙ around b (2 • c) (3 • d) a))
    (key 3 (around (3 • a) b c (2 • d) ∙ around b c (2 • d) (3 • a) ∙ around c (2 • d) (3 • a) b))
  where
    key : (i : ℕ) {x y : ℕ} → x ≡ y → x ⊕ get_or k i 0 ≡ y ⊕ get_or k i 0
    key i e = ap (λ (x : ℕ). x ⊕ get_or k i 0) e

entry-turned : (k m b : ℕ) {x x' : ℕ} → k + m ≡ 4 → x ≡ entry b → x' ≡ ROTR (8 * k) x → bytes 4 x' ≡ turn m (spread (s_box b))
entry-turned k m b all is turns =
    ap (bytes 4) (turns ∙ ap (ROTR (8 * k)) is) ∙ turned k m (entry b) all (entry_lt b) ∙ ap (turn m) (entry-bytes b)

-- a column of a round: an entry of the table for each row, turned to it, and the key's column
module _ (p q r s k a b c d : ℕ) {q' r' s' : ℕ} where
  pub mixed-is : p ≡ entry a → q ≡ entry b → r ≡ entry c → s ≡ entry d → q' ≡ ROTR 8 q → r' ≡ ROTR 16 r → s' ≡ ROTR 24 s
      → bytes 4 (p ⊕ q' ⊕ r' ⊕ s' ⊕ k) ≡ sum (mixed_column (s_box a ∷ s_box b ∷ s_box c ∷ s_box d ∷ [])) (bytes 4 k)
  mixed-is ep eq er es tq tr ts =
      let one = added p q' (ap (bytes 4) ep ∙ entry-bytes a) (entry-turned 1 3 b refl eq tq) in
      let two = added (p ⊕ q') r' one (entry-turned 2 2 c refl er tr) in
      let three = added (p ⊕ q' ⊕ r') s' two (entry-turned 3 1 d refl es ts) in
      added (p ⊕ q' ⊕ r' ⊕ s') k three refl ∙ spread-is (s_box a) (s_box b) (s_box c) (s_box d) (bytes 4 k)

-- a column of the last round: four bytes of the S-box, and the key's column
pub plain-is : (w k a b c d : ℕ) {s : List ℕ} → s ≡ sub_word (a ∷ b ∷ c ∷ d ∷ []) → w ≡ number (part s 0 4) → bytes 4 (w ⊕ k) ≡ sum (s_box a ∷ s_box b ∷ s_box c ∷ s_box d ∷ []) (bytes 4 k)
plain-is w k a b c d is read =
    let s : List ℕ = a ∷ b ∷ c ∷ d ∷ [] in
    added w k (ap (bytes 4) (read ∙ ap (λ (l : List ℕ). number (part l 0 4)) is) ∙ bytes_back (sub_word s) (row-bytes _ (λ i. s_box-lt (get_or s i 0)))) refl

-- the byte in row 3
pub lowest : (w : ℕ) → w % 256 ≡ byte_in 3 w
unfolding bytes
lowest w = ap (λ (n : ℕ). n % 256) (sym (div-one w))
