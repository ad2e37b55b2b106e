use Rattle.std.proofs.Common.{◌≡◌, ℕ, ◌+◌, ◌*◌, ◌≤◌, List, ◌++◌, length, drop, min, sym, refl, ap, ◌∙◌, ap₂, arith, rules, length-drop, drop-drop}
use Rattle.std.specs.Iterator.Adapters.{enumerate_source, enumerate_count}
use Rattle.std.specs.Slice.Iter.{chunks_rest, chunks_size}
use Rattle.octets.specs.Octets.{bytes, xor, laid}
use Rattle.gcm_counter.proofs.Counting.{first_block, block-after-next, piece-rest, crypt-turn, crypt-end}
use Rattle.gcm_counter.specs.Counter.{gctr, stream_by}
use Rattle.gcm_counter.proofs.crypt.Goals as goal

pub loop-k-init : goal.loop-k-init
unfolding stream_by
loop-k-init c =
    let a = c.args in
    let w = a.schedule.now in
    let source = a.source.now in
    let same = c.into_iter-k-iterator.ensures.into_iter_gives in
    let pieces = ap (λ s. enumerate_source s) same ∙ c.enumerate-k-items.ensures.source in
    let none = ap (λ s. enumerate_count s) same ∙ c.enumerate-k-items.ensures.count in
    let left = ap (λ s. chunks_rest s) pieces ∙ c.chunks.ensures.rest in
    let here : a.at + 32 * 0 ≡ a.at = omega arith in (
      ap (λ s. chunks_size s) pieces ∙ c.chunks.ensures.size,
      left ∙ sym (ap (λ (n : ℕ). drop (32 * n) source) none),
      refl,
      ap₂ (λ (n : ℕ) (s : List ℕ). laid a.buffer.now (a.at + 32 * n) (gctr w (a.nonce.now ++ bytes 4 2) s)) none left
          ∙ ap₂ (λ (n : ℕ) (b : List ℕ). laid a.buffer.now n (gctr w b source)) here (first_block a.nonce.now (search rules)),
    )

pub loop-k-preserved : goal.loop-k-preserved
loop-k-preserved c =
    let a = c.args in
    let w = a.schedule.now in
    let nonce = a.nonce.now in
    let l = c.loop-k in
    let piece = c.in-Some.piece.now in
    let steps = c.in-Some.ensures.steps in
    let left = chunks_rest (enumerate_source l.k-iterator) in
    let after = chunks_rest (enumerate_source c.next.new.self) in
    let new = c.copy_masked.new.buffer in
    let i = 32 * enumerate_count l.k-iterator in
    let on : 32 * enumerate_count c.next.new.self ≡ i + 32 = omega (arith, steps.2) in
    let further : a.at + 32 * enumerate_count c.next.new.self ≡ a.at + i + 32 = omega (arith, steps.2) in
    let size = steps.0.1.1 ∙ ap (λ (n : ℕ). min n (length left)) l.invariant.0 in
    let inside : a.at + i ≤ length l.buffer = omega (arith, c.requires, l.invariant.2, steps.0.1.2, ap length l.invariant.1, length-drop i a.source.now) in
    let written = c.copy_masked.ensures ∙ ap₂ (λ (n : ℕ) (m : List ℕ). laid l.buffer (a.at + 32 * n) (xor piece m)) steps.1 c.masks-mask.ensures in (
      steps.0.0 ∙ l.invariant.0,
      piece-rest left piece after steps.0.1.0 size ∙ ap (drop 32) l.invariant.1 ∙ drop-drop 32 i a.source.now ∙ ap (λ (n : ℕ). drop n a.source.now) (sym on),
      search rules,
      ap₂ (λ (n : ℕ) (b : List ℕ). laid new n (gctr w b after)) further (block-after-next nonce l.count _ (search rules) refl)
          ∙ crypt-turn left piece after steps.0.1.0 size w (nonce ++ bytes 4 l.count) l.buffer new (a.at + i) inside written
          ∙ l.invariant.3,
    )

pub returns : goal.returns
returns c =
    let a = c.args in
    let l = c.loop-k in
    sym (crypt-end a.schedule.now (a.nonce.now ++ bytes 4 l.count) (chunks_rest (enumerate_source l.k-iterator)) l.buffer _ c.in-None.ensures.steps.0.1.0) ∙ l.invariant.3
