-- RFC 9000 section 16: integers as they are written, in two bytes and in the fewest.
use Rattle.std.specs.Prelude.{ℕ, ◌+◌, ◌^◌, List, cond, ltb}
use Rattle.octets.specs.Octets.{bytes}

unfoldable pub two : ℕ → List ℕ
two n = bytes 2 (2 ^ 14 + n)

unfoldable pub smallest : ℕ → List ℕ
smallest n = cond (ltb n (2 ^ 6)) (bytes 1 n) (cond (ltb n (2 ^ 14)) (two n) (bytes 4 (2 ^ 31 + n)))
