-- Section 16: what reading an integer comes to, by what the tests show.
use Prim.Native.Nat.{ℕ, ◌-◌, ◌*◌, ◌/◌, ◌%◌, ◌^◌, ◌≤◌, ◌<◌}
use mathlib.Core.Path.{◌≡◌, sym}
use mathlib.Core.List.{List}
use native.Mathlib.Omega.{arith}
use lib.ListN.{length, get_or, take}
use lib.Pow.{pow_pos, pow_mono}
use borrow.Author.Tests.{le-leb, lt-leb}
use Rattle.octets.specs.Outcome.{refused, given}
use Rattle.octets.specs.Octets.{number}
use Rattle.integers.specs.Integer.{integer}

-- there are one, two, four or eight bytes
pub record Few (k : ℕ) : Type 0 where
  pub some : 1 ≤ k
  pub few : k ≤ 8

pub counted : (b : ℕ) {k : ℕ} → b < 256 → k ≡ 2 ^ (b / 64) → Few k
counted b h e =
    let q : b / 64 ≤ 3 = omega arith in
    record { some = omega (arith, e, pow_pos (b / 64)); few = omega (arith, e, pow_mono q) }

module _ (s : List ℕ) where
  pub nothing-there : length s < 1 → integer s ≡ refused 3
  unfolding integer
  nothing-there h = rw (lt-leb 1 (length s) h)

  module _ (k : ℕ) (says : k ≡ 2 ^ (get_or s 0 0 / 64)) (some : 1 ≤ length s) where
    pub not-whole : length s < k → integer s ≡ refused 3
    unfolding integer
    not-whole h = rw (le-leb 1 (length s) some, ← says, lt-leb k (length s) h)

    pub whole : k ≤ length s → integer s ≡ given (record { value = number (take k s) % 2 ^ (8 * k - 2); taken = k })
    unfolding integer
    whole h = rw (le-leb 1 (length s) some, ← says, le-leb k (length s) h)

    -- the value as the code has it, by what it loaded and what it divided by
    pub read : {v m : ℕ} → k ≤ length s → v ≡ number (take k s) → m ≡ 2 ^ (8 * k - 2) → given (record { value = v % m; taken = k }) ≡ integer s
    read h loaded modulus = rw (loaded, modulus) (sym (whole h))
