-- What the tests on the way say of a line and of a part.
use Prim.Native.Nat.{ℕ, ◌+◌, ◌-◌, ◌<◌, ◌≤◌}
use mathlib.Core.Bool.{true}
use mathlib.Core.List.{List, []}
use mathlib.Core.Path.{◌≡◌}
use native.Mathlib.Omega.{arith}
use borrow.Author.Tests.{le-leb, lt-leb, eq-eqb, ne_eqb}
use lib.Dec.{eqb}
use lib.ListN.{length, get_or}
use Rattle.octets.specs.Octets.{part}
use Rattle.terminal_words.specs.Words.{word_count}
use Rattle.console.specs.Answers.{inside}
use Rattle.console.specs.Files.{is_comment}

-- ---- a comment
module _ (t : List ℕ) where
  pub comment-blank : word_count 32 t ≡ 0 → is_comment t ≡ true
  unfolding is_comment
  comment-blank h = simp (eq-eqb (word_count 32 t) 0 h)

  pub comment-by : (word_count 32 t ≡ 0 → ⊥) → is_comment t ≡ eqb (get_or t 0 0) 35
  unfolding is_comment
  comment-by h = simp (ne_eqb (word_count 32 t) 0 h)

-- ---- a part of a buffer
module _ (d : List ℕ) (at n : ℕ) where
  pub outside : length d < at + n → inside d at n ≡ []
  unfolding inside
  outside h = rw (lt-leb (at + n) (length d) h)

  pub there : at + n ≤ length d → inside d at n ≡ part d at (at + n - at)
  unfolding inside
  there h =
      let long : at + n - at ≡ n = omega arith in
      rw (le-leb (at + n) (length d) h, long)
