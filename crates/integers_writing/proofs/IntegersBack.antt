-- Section 16: an integer that was written in one, two or four bytes is read back, whatever stands behind it.
use Prim.Native.Nat.{ℕ, suc, ◌+◌, ◌-◌, ◌*◌, ◌/◌, ◌%◌, ◌^◌, ◌<◌}
use mathlib.Core.Path.{◌≡◌, refl, ◌∙◌}
use mathlib.Core.List.{List, ◌++◌}
use mathlib.Core.Bool.{Bool, true, false}
use native.Mathlib.Omega.{arith}
use lib.Dec.{ltb}
use lib.ListN.{length, length-append}
use lib.Seq.{take_at}
use borrow.Author.Tests.{ltb-true}
use Rattle.octets.specs.Outcome.{given}
use Rattle.octets.specs.Octets.{bytes}
use Rattle.octets.proofs.Numbers.{bytes-length, number-bytes}
use Rattle.integers.specs.Integer.{integer}
use Rattle.integers_writing.specs.Written.{two, smallest}
use Rattle.integers.proofs.Integers.{whole}

-- of m in suc j bytes, whose first two bits say that they are so many, the value v is read
reads : (j m v : ℕ) (rest : List ℕ) → suc j ≡ 2 ^ (m / 256 ^ j % 256 / 64) → m % 256 ^ suc j % 2 ^ (8 * suc j - 2) ≡ v
    → integer (bytes (suc j) m ++ rest) ≡ given (record { value = v; taken = suc j })
unfolding bytes
reads j m v rest says is =
    let l : length (bytes (suc j) m ++ rest) ≡ suc j + length rest = length-append (bytes (suc j) m) rest ∙ rw (bytes-length (suc j) m) in
    whole (bytes (suc j) m ++ rest) (suc j) says (omega arith) (omega arith)
    ∙ rw (take_at (bytes (suc j) m) rest (suc j) (bytes-length (suc j) m), number-bytes (suc j) m, is)

one-back : (n : ℕ) (rest : List ℕ) → n < 2 ^ 6 → integer (bytes 1 n ++ rest) ≡ given (record { value = n; taken = 1 })
one-back n rest h = let form : n / 256 ^ 0 % 256 / 64 ≡ 0 = omega arith in reads 0 n n rest (rw form) (omega arith)

pub two_back : (n : ℕ) (rest : List ℕ) → n < 2 ^ 14 → integer (two n ++ rest) ≡ given (record { value = n; taken = 2 })
unfolding two
two_back n rest h = let form : (2 ^ 14 + n) / 256 ^ 1 % 256 / 64 ≡ 1 = omega arith in reads 1 (2 ^ 14 + n) n rest (rw form) (omega arith)

four-back : (n : ℕ) (rest : List ℕ) → n < 2 ^ 30 → integer (bytes 4 (2 ^ 31 + n) ++ rest) ≡ given (record { value = n; taken = 4 })
four-back n rest h = let form : (2 ^ 31 + n) / 256 ^ 3 % 256 / 64 ≡ 2 = omega arith in reads 3 (2 ^ 31 + n) n rest (rw form) (omega arith)

pub smallest-back : (n : ℕ) (rest : List ℕ) → n < 2 ^ 30 → integer (smallest n ++ rest) ≡ given (record { value = n; taken = length (smallest n) })
unfolding smallest two
smallest-back n rest h = by (ltb n (2 ^ 6)) (ltb n (2 ^ 14)) refl refl
  where
    by : (a b : Bool) → ltb n (2 ^ 6) ≡ a → ltb n (2 ^ 14) ≡ b → integer (smallest n ++ rest) ≡ given (record { value = n; taken = length (smallest n) })
    by true b p q = rw (p, bytes-length 1 n) (one-back n rest (ltb-true n (2 ^ 6) p))
    by false true p q = rw (p, q, bytes-length 2 (2 ^ 14 + n)) (two_back n rest (ltb-true n (2 ^ 14) q))
    by false false p q = rw (p, q, bytes-length 4 (2 ^ 31 + n)) (four-back n rest h)
