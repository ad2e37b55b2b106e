use Prim.Native.Nat.{ℕ, ◌+◌, ◌*◌, ◌/◌, ◌%◌}
use mathlib.Core.Path.{◌≡◌, sym, ap, ◌∙◌}
use native.Mathlib.Omega.{arith}
use lib.ListN.{length-set, get_or, length, take}
use lib.Seq.{length-take-le, get_or-take}
use Rattle.digits_writing.specs.Hex.{digit_of, hex}
use Rattle.digits_writing.proofs.Hex.{hex-length, hex-at, lay-two}
use Rattle.digits_writing.proofs.encode.Goals as goal

pub loop-i-preserved : goal.loop-i-preserved
loop-i-preserved c =
    let l = c.loop-i in
    let a = c.args in
    let n = c.min-count.result in
    let s = a.bytes.now in
    let some : length (take n s) ≡ n = length-take-le n s (omega arith) in
    let byte : get_or (take n s) l.i 0 ≡ get_or s l.i 0 = get_or-take n s l.i 0 (omega arith) in
    let long : length (hex s) ≡ 2 * length s = hex-length s in
    let all : length (take (2 * n) (hex s)) ≡ 2 * n = length-take-le (2 * n) (hex s) (omega arith) in
    let digits = hex-at s l.i (omega arith) in
    let high = c.digit.ensures ∙ ap (λ (b : ℕ). digit_of (b / 16)) byte ∙ sym digits.0 ∙ sym (get_or-take (2 * n) (hex s) (2 * l.i) 0 (omega arith)) in
    let low = c.digit-in-loop-i.ensures ∙ ap (λ (b : ℕ). digit_of (b % 16)) byte ∙ sym digits.1 ∙ sym (get_or-take (2 * n) (hex s) (2 * l.i + 1) 0 (omega arith)) in (
      simp length-set l.invariant.0,
      lay-two l.buffer a.buffer.now (take (2 * n) (hex s)) l.i _ _ (omega arith) (omega arith) l.invariant.1 high low,
    )
