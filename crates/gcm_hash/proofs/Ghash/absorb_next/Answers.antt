-- A whole block, or a byte, is taken from what is left.
use Prim.Native.Nat.{ℕ, ◌+◌, ◌≤◌, ◌<◌}
use mathlib.Core.Path.{◌≡◌, ap, ◌∙◌}
use native.Mathlib.Omega.{arith}
use lib.Bits.{bit_xor}
use lib.ListN.{length, drop}
use Rattle.gcm_field.specs.Field.{◌•◌, num}
use Rattle.gcm_table.specs.Table.{key_of}
use Rattle.gcm_hash.specs.Hash.{absorbed}
use Rattle.gcm_hash.proofs.Stream.{at, absorbed-byte, absorbed-block}
use Rattle.gcm_hash.proofs.Ghash.absorb_next.Goals as goal

pub returns-then-bytes-at-ge16 : goal.returns-then-bytes-at-ge16
returns-then-bytes-at-ge16 c =
    let a = c.args in
    let h = key_of a.table.now.entries in
    let bytes = a.bytes.now in
    let y = num a.self.y in
    let whole : a.at + 16 ≤ length bytes = omega arith in
    let none : 0 ≡ a.self.filled = omega arith in
    let product = c.times-y.ensures ∙ ap (λ (x : ℕ). x • h) (c.add.ensures ∙ ap (bit_xor y) c.load_block.ensures) in
    record {
      same = absorbed-block h y _ bytes a.at (λ i. (c.type_inv.bytes i).fits) whole product
          ∙ ap (λ (k : ℕ). absorbed h (at y k) (drop a.at bytes)) none;
      room = omega arith;
      further = omega arith;
      inside = whole;
    }

pub returns : goal.returns
returns c =
    let a = c.args in
    let inside : a.at < length a.bytes.now = omega arith in
    let next = c.absorb_byte.ensures in
    record {
      same = absorbed-byte (key_of a.table.now.entries) _ _ a.bytes.now a.at inside next;
      room = c.absorb_byte.result.is_open;
      further = omega arith;
      inside = omega arith;
    }
