-- A text in counter mode, and GCM of it, into a buffer: what is refused, and what is written.
use Prim.Native.Nat.{ℕ, ◌+◌, ◌-◌, ◌≤◌, ◌<◌}
use mathlib.Core.Path.{◌≡◌, sym, ap, ap₂, ◌∙◌}
use mathlib.Core.List.{List, [], ◌++◌, append-nil}
use native.Mathlib.Nat.{zero-add}
use native.Mathlib.Omega.{arith}
use borrow.Author.Tests.{le-leb, lt-leb}
use lib.ListN.{length, take, drop}
use lib.Seq.{take_at}
use Rattle.octets.specs.Octets.{laid, begun, placed}
use Rattle.octets.specs.Outcome.{Outcome, refused, given}
use Rattle.octets.proofs.Buffers.{goes_on}
use Rattle.gcm.specs.Gcm.{hash_key, tag_by}
use Rattle.gcm_counter.specs.Counter.{stream_by}
use Rattle.gcm_counter.proofs.Laws.{stream-by-length}
use Rattle.measured.specs.Measured.{streaming, sealing, answer}

-- what a function answers, and what it leaves in the buffer
abbrev pub Answered : Outcome (List ℕ) → List ℕ → ℕ → List ℕ → Type 0
Answered o out r d = (r ≡ answer o) × (d ≡ placed o out)

answered : (o p : Outcome (List ℕ)) (out : List ℕ) → o ≡ p → Answered o out (answer p) (placed p out)
answered o p out e = (sym (ap answer e), sym (ap (λ (x : Outcome (List ℕ)). placed x out) e))

-- what is laid over a buffer's start begins it
laid-begun : (out c d : List ℕ) → d ≡ laid out 0 c → d ≡ begun c out
laid-begun out c d e = e ∙ ap (λ (n : ℕ). c ++ drop n out) (zero-add (length c))

-- ---- counter mode alone
module _ (w nonce text out : List ℕ) where
  abbrev asked : Outcome (List ℕ)
  asked = streaming w nonce text (length out)

  pub no-room-to-stream : length out < length text → Answered asked out 0 out
  unfolding streaming
  no-room-to-stream h = answered asked (refused 1) out (rw (lt-leb (length text) (length out) h))

  pub streamed : (d : List ℕ) → length text ≤ length out → d ≡ laid out 0 (stream_by w nonce text) → Answered asked out 1 d
  unfolding streaming
  streamed d h e =
      let c : List ℕ = stream_by w nonce text in
      let passed = answered asked (given c) out (rw (le-leb (length text) (length out) h)) in
      (passed.0, laid-begun out c d e ∙ passed.1)

-- ---- with the tag
module _ (w nonce associated text out : List ℕ) where
  abbrev wanted : Outcome (List ℕ)
  wanted = sealing w nonce associated text (length out)

  pub wide-associated : 65536 < length associated → Answered wanted out 0 out
  unfolding sealing
  wide-associated h = answered wanted (refused 1) out (rw (lt-leb (length associated) 65536 h))

  module _ (fit : length associated ≤ 65536) where
    pub wide-text : 65536 < length text → Answered wanted out 0 out
    unfolding sealing
    wide-text h = answered wanted (refused 1) out (rw (le-leb (length associated) 65536 fit, lt-leb (length text) 65536 h))

    module _ (fits : length text ≤ 65536) where
      pub no_room : length out < length text + 16 → Answered wanted out 0 out
      unfolding sealing
      no_room h = answered wanted (refused 1) out (rw (le-leb (length associated) 65536 fit, le-leb (length text) 65536 fits, lt-leb (length text + 16) (length out) h))

      module _ (room : length text + 16 ≤ length out) {d d' t : List ℕ} {h : ℕ} where
        -- each equation is what a call ensures
        pub sealed : d ≡ laid out 0 (stream_by w nonce text) → h ≡ hash_key w
            → t ≡ tag_by w h nonce (associated ++ [] ++ []) (take (length text - 0) d) → d' ≡ laid d (length text) t → Answered wanted out 1 d'
        unfolding sealing
        sealed ed eh et ed' =
            let c : List ℕ = stream_by w nonce text in
            let size : length text ≡ length c = sym (stream-by-length w nonce text) in
            let all : length text - 0 ≡ length text = omega arith in
            let none : associated ++ [] ++ [] ≡ associated = append-nil (associated ++ []) ∙ append-nil associated in
            let begin : d ≡ begun c out = laid-begun out c d ed in
            let front : take (length text - 0) d ≡ c = ap₂ take all begin ∙ take_at c (drop (length c) out) (length text) (sym size) in
            let tag : t ≡ tag_by w (hash_key w) nonce associated c = et ∙ ap₂ (λ (k : ℕ) (a : List ℕ). tag_by w k nonce a (take (length text - 0) d)) eh none ∙ ap (tag_by w (hash_key w) nonce associated) front in
            let o : Outcome (List ℕ) = given (c ++ tag_by w (hash_key w) nonce associated c) in
            let passed = answered wanted o out (rw (le-leb (length associated) 65536 fit, le-leb (length text) 65536 fits, le-leb (length text + 16) (length out) room)) in
            (passed.0, goes_on c t out d d' (length text) begin ed' size ∙ ap (λ (x : List ℕ). begun (c ++ x) out) tag ∙ passed.1)
