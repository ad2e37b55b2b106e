-- A version from its number, a secret from its digits, and keys by what names them.
use Prim.Native.Nat.{ℕ, ◌^◌, ◌<◌, ◌≤◌}
use Rattle.std.specs.Prelude.{Result, Ok, Err}
use Rattle.std.specs.Result.{OkIff, result_unwrap_or}
use mathlib.Core.List.{List}
use mathlib.Core.Path.{◌≡◌, sym, ap, ◌∙◌}
use native.Mathlib.Omega.{arith}
use borrow.Author.Tests.{lt-ltb, le-ltb, eq-eqb, ne_eqb}
use lib.ListN.{length, take, replicate, length-take}
use lib.Seq.{take-take, take-length}
use Rattle.octets.specs.Octets.{begun}
use Rattle.digits_reading.specs.Digits.{pairs, Decoded}
use Rattle.terminal_words.specs.Words.{word_of, word_count}
use Rattle.wicket_words.specs.Named.{number_at, version_at, secret_spelt, initial_named, installed_by, keys_named}

-- a number that was read into 32 bits, and 0 where it has more
pub version-read : {E : Type 0} (line : List ℕ) (i : ℕ) (r : Result ℕ E) → OkIff r (number_at line i < 2 ^ 32) (number_at line i)
    → result_unwrap_or r 0 ≡ version_at line i
unfolding version_at
version-read line i (Ok x) (fits, is) = rw (lt-ltb (number_at line i) (2 ^ 32) fits, is)
version-read line i (Err e) large = rw (le-ltb (number_at line i) (2 ^ 32) (omega (arith, large)))

-- what was decoded into 32 zeros is the secret that the digits spell
pub secret-decoded : {t after : List ℕ} {n : ℕ} → Decoded t (replicate 32 0) after n → after ≡ secret_spelt t
unfolding secret_spelt
secret-decoded {t = t} {n = n} d =
    let s = pairs t in
    let counted = d.counted in
    let fit : n ≤ 32 = omega arith in
    let all : n ≡ length (take 32 s) = omega (arith, length-take 32 s) in
    let front = sym (take-take n 32 s fit) ∙ ap (λ (m : ℕ). take m (take 32 s)) all ∙ take-length (take 32 s) in
    d.holds ∙ ap (λ (x : List ℕ). begun x (replicate 32 0)) front

-- ---- what the second word is, by its words between colons
module _ (line : List ℕ) {o : List ℕ} (origin : o ≡ word_of 0 line 2) where
  pub keys-installed : {n s : List ℕ} → word_count 58 o ≡ 2 → n ≡ word_of 58 o 0 → s ≡ word_of 58 o 1 → installed_by line n s ≡ keys_named line
  unfolding keys_named
  keys-installed two name secret = rw (sym origin, eq-eqb (word_count 58 o) 2 two, name, secret)

  pub keys-initial : (word_count 58 o ≡ 2 → ⊥) → initial_named line ≡ keys_named line
  unfolding keys_named
  keys-initial h = rw (sym origin, ne_eqb (word_count 58 o) 2 h)
