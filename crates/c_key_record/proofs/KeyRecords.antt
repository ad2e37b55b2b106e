-- A key record in 49 bytes: laid down part by part, and read back.
use Prim.Native.Nat.{ℕ, ◌^◌, ◌<◌}
use mathlib.Core.Path.{◌≡◌, refl, sym, ap, ◌∙◌}
use mathlib.Core.List.{List, [], ◌∷◌, ◌++◌, append-nil, append_assoc}
use native.Mathlib.Omega.{arith}
use lib.ListN.{length, get_or, set, length-append, drop_of_length-le}
use lib.Seq.{take_at, drop_at}
use Rattle.octets.specs.Octets.{bytes, number, part, laid}
use Rattle.octets.proofs.Numbers.{bytes-length, number-back}
use Rattle.octets.proofs.Buffers.{goes_on, lay-one, laid-length}
use Rattle.protection.specs.Protection.{Keys}
use Rattle.c_key_record.specs.Layout.{key_bytes, keys_in}

-- the parts have their sizes
pub record Sized (k : Keys) : Type 0 where
  pub of-key : length k.key ≡ 16
  pub of-iv : length k.iv ≡ 12
  pub of-hp : length k.hp ≡ 16

-- version and level
abbrev front : Keys → List ℕ
front k = bytes 4 k.version ++ (k.level ∷ [])

module _ (k : Keys) (sized : Sized k) where
  -- how much stands before each part
  before-key : length (front k) ≡ 5
  before-key = omega (arith, length-append (bytes 4 k.version) (k.level ∷ []), bytes-length 4 k.version)

  before-iv : length (front k ++ k.key) ≡ 21
  before-iv = omega (arith, length-append (front k) k.key, before-key, sized.of-key)

  before-hp : length (front k ++ k.key ++ k.iv) ≡ 33
  before-hp = omega (arith, length-append (front k ++ k.key) k.iv, before-iv, sized.of-iv)

  pub key-bytes-length : length (key_bytes k) ≡ 49
  unfolding key_bytes
  key-bytes-length = omega (arith, length-append (front k ++ k.key ++ k.iv) k.hp, before-hp, sized.of-hp)

  -- five parts, one behind the other, fill 49 bytes
  pub keys-laid : (d d₁ d₂ d₃ d₄ : List ℕ) → length d ≡ 49 → d₁ ≡ laid d 0 (bytes 4 k.version) → d₂ ≡ laid (set d₁ 4 k.level) 5 k.key → d₃ ≡ laid d₂ 21 k.iv → d₄ ≡ laid d₃ 33 k.hp
      → d₄ ≡ key_bytes k
  unfolding key_bytes
  keys-laid d d₁ d₂ d₃ d₄ all e₁ e₂ e₃ e₄ =
      let version : List ℕ = bytes 4 k.version in
      let four = bytes-length 4 k.version in
      let room : 4 < length d₁ = omega (arith, ap length e₁, laid-length d 0 version (omega arith)) in
      let one = goes_on [] version d d d₁ 0 refl e₁ refl in
      let two = goes_on version (k.level ∷ []) d d₁ (set d₁ 4 k.level) 4 one (lay-one d₁ 4 k.level room) (sym four) in
      let three = goes_on (front k) k.key d (set d₁ 4 k.level) d₂ 5 two e₂ (sym before-key) in
      let four = goes_on (front k ++ k.key) k.iv d d₂ d₃ 21 three e₃ (sym before-iv) in
      let five = goes_on (front k ++ k.key ++ k.iv) k.hp d d₃ d₄ 33 four e₄ (sym before-hp) in
      let none = drop_of_length-le d {i = length (key_bytes k)} (omega (arith, key-bytes-length)) in
      five ∙ ap (λ (rest : List ℕ). key_bytes k ++ rest) none ∙ append-nil (key_bytes k)

-- what stands between two lists
between : (a b c : List ℕ) (at n : ℕ) → length a ≡ at → length b ≡ n → part (a ++ b ++ c) at n ≡ b
between a b c at n before size = rw (append_assoc a b c, drop_at a (b ++ c) at before, take_at b c n size)

-- ---- 49 bytes give the record back
module _ (k : Keys) where
  version-back : part (key_bytes k) 0 4 ≡ bytes 4 k.version
  unfolding key_bytes bytes
  version-back = refl

  level-back : get_or (key_bytes k) 4 0 ≡ k.level
  unfolding key_bytes bytes
  level-back = refl

  module _ (sized : Sized k) where
    key_back : part (key_bytes k) 5 16 ≡ k.key
    unfolding key_bytes
    key_back =
        rw (append_assoc (front k ++ k.key) k.iv k.hp)
        (between (front k) k.key (k.iv ++ k.hp) 5 16 (before-key k sized) sized.of-key)

    iv-back : part (key_bytes k) 21 12 ≡ k.iv
    unfolding key_bytes
    iv-back = between (front k ++ k.key) k.iv k.hp 21 12 (before-iv k sized) sized.of-iv

    hp-back : part (key_bytes k) 33 16 ≡ k.hp
    unfolding key_bytes
    hp-back =
        rw (← (append-nil (front k ++ k.key ++ k.iv ++ k.hp)))
        (between (front k ++ k.key ++ k.iv) k.hp [] 33 16 (before-hp k sized) sized.of-hp)

    pub keys-back : k.version < 2 ^ 32 → keys_in (key_bytes k) ≡ k
    unfolding keys_in
    keys-back fits = rw (version-back, level-back, key_back, iv-back, hp-back, number-back 4 k.version fits)

-- a record whose parts were read from 49 bytes
pub keys-read : (s : List ℕ) {v level : ℕ} {key iv hp : List ℕ} → v ≡ number (part s 0 4) → level ≡ get_or s 4 0 → key ≡ part s 5 16 → iv ≡ part s 21 12 → hp ≡ part s 33 16
    → ◌≡◌ {A = Keys} (record { version = v; level = level; key = key; iv = iv; hp = hp }) (keys_in s)
unfolding keys_in
keys-read s version level key iv hp = rw (version, level, key, iv, hp)
