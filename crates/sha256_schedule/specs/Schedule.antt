-- FIPS 180-4 section 5.2.1 and section 6.2.2 step 1: a block's words, and the message schedule.
use Rattle.std.specs.Prelude.{ℕ, zero, suc, List, [], ◌∷◌, ◌++◌, map, get_or, take, drop}
use Rattle.octets.specs.Octets.{number}
use Rattle.sha256_words.specs.Words.{◌⊞◌, σ₀, σ₁}

-- ---- 5.2.1: parsing
-- n parts of size elements each, one after the other
unfoldable pub parsed : ℕ → ℕ → List ℕ → List (List ℕ)
parsed zero size s = []
parsed (suc n) size s = take size s ∷ parsed n size (drop size s)

-- a block's sixteen words
unfoldable pub words : List ℕ → List ℕ
words block = map number (parsed 16 4 block)

-- ---- 6.2.2 step 1: the message schedule
-- W_t, from the sixteen words before it: W_(t-16) is the first of them
abbrev pub next_word : List ℕ → ℕ
next_word w = σ₁ (get_or w 14 0) ⊞ get_or w 9 0 ⊞ σ₀ (get_or w 1 0) ⊞ get_or w 0 0

-- the sixteen words W_t to W_(t+15)
unfoldable pub window : List ℕ → ℕ → List ℕ
window m zero = m
window m (suc t) = drop 1 (window m t) ++ (next_word (window m t) ∷ [])

unfoldable pub W : List ℕ → ℕ → ℕ
W m t = get_or (window m t) 0 0
