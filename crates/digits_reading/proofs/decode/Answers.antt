use Prim.Native.Nat.{ℕ, ◌+◌, ◌*◌, ◌/◌, ◌%◌, min, ◌≤◌}
use mathlib.Core.Path.{ap₂, ◌≡◌, sym, ap, ◌∙◌}
use native.Mathlib.Omega.{arith}
use lib.ListN.{get_or, set, length-set, length, take}
use lib.Seq.{length-take-le, get_or-take}
use Rattle.octets.proofs.Buffers.{lay-turn}
use Rattle.digits_reading.specs.Digits.{pairs}
use Rattle.digits_reading.proofs.Pairs.{pairs-length, pairs-at, lay-begun}
use Rattle.digits_reading.proofs.decode.Goals as goal

pub loop-i-preserved : goal.loop-i-preserved
loop-i-preserved c =
    let l = c.loop-i in
    let a = c.args in
    let n = c.min-count.result in
    let text = a.text.now in
    let long : length (pairs text) ≡ length text / 2 = pairs-length text in
    let all : length (take n (pairs text)) ≡ n = length-take-le n (pairs text) (omega arith) in
    let v : ℕ = c.value.result % 16 * 16 + c.value-in-loop-i.result % 16 in
    let here : l.i ≡ 0 + l.i = omega arith in
    let byte : v ≡ get_or (take n (pairs text)) l.i 0 =
    ap₂ (λ (x y : ℕ). x % 16 * 16 + y % 16) c.value.ensures.0 c.value-in-loop-i.ensures.0
    ∙ sym (pairs-at text l.i (omega arith))
    ∙ sym (get_or-take n (pairs text) l.i 0 (omega arith)) in (
      simp length-set l.invariant.0,
      ap (λ (k : ℕ). set l.buffer k v) here
          ∙ lay-turn l.buffer a.buffer.now 0 (take n (pairs text)) l.i v (omega arith) (omega arith) l.invariant.1 byte,
    )

pub returns : goal.returns
returns c =
    let l = c.loop-i in
    let a = c.args in
    let n = c.min-count in
    let text = a.text.now in
    let long : length (pairs text) ≡ length text / 2 = pairs-length text in
    let all : length (take n.result (pairs text)) ≡ n.result = length-take-le n.result (pairs text) (omega arith) in
    let fits : n.result ≤ length l.buffer = omega arith in
    let end : l.i ≡ length (take n.result (pairs text)) = omega arith in record {
      prefix_len = (fits, sym (length-take-le _ l.buffer fits));
      decoded = record {
        counted = n.ensures ∙ ap (λ (k : ℕ). min k (length a.buffer.now)) (sym long);
        holds = lay-begun l.buffer a.buffer.now (take n.result (pairs text)) l.i end l.invariant.1;
      };
    }
