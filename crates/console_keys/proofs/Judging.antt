-- What the tests on the way say of a word that keys come of.
use Prim.Native.Nat.{ℕ}
use mathlib.Core.Bool.{true, false}
use mathlib.Core.List.{List}
use mathlib.Core.Path.{◌≡◌}
use borrow.Author.Tests.{eq-eqb, ne_eqb}
use lib.ListN.{length}
use Rattle.terminal_words.specs.Words.{word_of, word_count}
use Rattle.console_words.specs.Words.{is_hex}
use Rattle.console_keys.specs.Words.{is_level, is_secret, is_origin}

module _ (t : List ℕ) where
  -- ---- a secret
  pub secret-whole : length t ≡ 64 → is_secret t ≡ is_hex t
  unfolding is_secret
  secret-whole h = rw (eq-eqb (length t) 64 h)

  pub secret-not : (length t ≡ 64 → ⊥) → is_secret t ≡ false
  unfolding is_secret
  secret-not h = rw (ne_eqb (length t) 64 h)

  -- ---- what keys come of
  pub origin-id : (word_count 58 t ≡ 2 → ⊥) → is_origin t ≡ is_hex t
  unfolding is_origin
  origin-id h = rw (ne_eqb (word_count 58 t) 2 h)

  module _ (h : word_count 58 t ≡ 2) where
    pub origin-not : is_level (word_of 58 t 0) ≡ false → is_origin t ≡ false
    unfolding is_origin
    origin-not l = rw (eq-eqb (word_count 58 t) 2 h, l)

    pub origin-secret : is_level (word_of 58 t 0) ≡ true → is_origin t ≡ is_secret (word_of 58 t 1)
    unfolding is_origin
    origin-secret l = rw (eq-eqb (word_count 58 t) 2 h, l)
