-- The number that digits spell, read one digit a turn.
use Prim.Native.Nat.{ℕ, ◌+◌, ◌-◌, ◌*◌, ◌^◌, ◌<◌, ◌≤◌}
use mathlib.Core.Bool.{Bool, ◌&&◌, true, false, false≢true, and-true}
use mathlib.Core.List.{List, [], ◌∷◌}
use mathlib.Core.Path.{◌≡◌, refl, sym, ap, ◌∙◌}
use native.Mathlib.Nat.{mul-le-mul_left}
use native.Mathlib.Numerals.{add-one}
use native.Mathlib.Omega.{arith}
use borrow.Author.Tests.{lt-ltb, le-ltb, le-leb, lt-leb, eq-eqb, ne_eqb, eqb-true, eqb-false, ltb-true, ltb-false}
use lib.Dec.{eqb, ltb}
use lib.ListN.{length, get_or, take, drop, drop_of_length-le, length-drop}
use lib.Seq.{drop-cons, take_all}
use Rattle.digits_reading.specs.Digits.{value_of, run}
use Rattle.digits_numbers.specs.Numbers.{read_on, spelled, fitting, number_in, marked, number_of}
use Rattle.digits_numbers.specs.declared.NumberError.TheVariants.{NoNumber, TooLarge}
use Rattle.std.specs.Prelude.{Option, Some, None, Ok, Err, SomeIff}
use Rattle.std.specs.Option.{ok_or}
use Rattle.std.specs.List.{starts_with}
use Rattle.digits_numbers.specs.declared.NumberError.{NumberError}

-- more digits make no smaller number
pub grows : (base n : ℕ) (t : List ℕ) → 1 ≤ base → n ≤ read_on base n t
unfolding read_on
grows base n [] h = omega arith
grows base n (c ∷ t) h =
    let more : n * 1 ≤ n * base = mul-le-mul_left n h in
    let rest : n * base + value_of c ≤ read_on base (n * base + value_of c) t = grows base (n * base + value_of c) t h in
    omega arith

module _ (base n : ℕ) (t : List ℕ) (i : ℕ) where
  pub read-turn : i < length t → read_on base (n * base + value_of (get_or t i 0)) (drop (i + 1) t) ≡ read_on base n (drop i t)
  unfolding read_on
  read-turn l = rw (drop-cons t i 0 l, add-one i)

  pub read-ends : length t ≤ i → read_on base n (drop i t) ≡ n
  unfolding read_on
  read-ends l = ap (read_on base n) (drop_of_length-le t l)

-- ---- a number that may be too large, where it is asked for by `ok_or`
module _ (P : Type 0) (v : ℕ) (e : NumberError) where
  pub was_too_large : {why : NumberError} (o : Option ℕ) → SomeIff o P v → ok_or o e ≡ Err why → P → ⊥
  was_too_large None not h = not
  was_too_large (Some x) is h = cc

  pub was_there : {x : ℕ} (o : Option ℕ) → SomeIff o P v → ok_or o e ≡ Ok x → x ≡ v
  was_there None not h = cc
  was_there (Some y) is h = let known = is.1 in cc

-- ---- what is answered
pub fits : (base : ℕ) (t : List ℕ) → spelled base t < 2 ^ 64 → fitting base t ≡ Ok (spelled base t)
unfolding fitting
fits base t h = rw (lt-ltb (spelled base t) (2 ^ 64) h)

pub wraps : (base : ℕ) (t : List ℕ) → 2 ^ 64 ≤ spelled base t → fitting base t ≡ Err TooLarge
unfolding fitting
wraps base t h = rw (le-ltb (spelled base t) (2 ^ 64) h)

pub no_digit : (base : ℕ) (t : List ℕ) → run base t < length t → number_in base t ≡ Err NoNumber
unfolding number_in
no_digit base t h = rw (le-leb 1 (length t) (omega arith), lt-leb (length t) (run base t) h)

pub nothing : (base : ℕ) (t : List ℕ) → length t < 1 → number_in base t ≡ Err NoNumber
unfolding number_in
nothing base t h = rw (lt-leb 1 (length t) h)

pub all_digits : (base : ℕ) (t : List ℕ) → 1 ≤ length t → length t ≤ run base t → number_in base t ≡ fitting base t
unfolding number_in
all_digits base t h k = rw (le-leb 1 (length t) h, le-leb (length t) (run base t) k)

-- ---- the mark of hex
turned : (a b : ℕ) → eqb a b ≡ eqb b a
turned a b = by (eqb a b) refl
  where
    by : (t : Bool) → eqb a b ≡ t → eqb a b ≡ eqb b a
    by true p = p ∙ sym (eq-eqb b a (sym (eqb-true a b p)))
    by false p = p ∙ sym (ne_eqb b a (λ e. eqb-false a b p (sym e)))

module _ (t : List ℕ) where
  pub too_short : length t ≤ 2 → marked t ≡ false
  unfolding marked
  too_short h = simp (le-ltb 2 (length t) h)

  pub by-letters : 2 < length t → starts_with eqb t (48 ∷ 120 ∷ []) ≡ marked t
  unfolding marked
  by-letters l = rw (lt-ltb 2 (length t) l) (both t l)
    where
      both : (s : List ℕ) → 2 < length s → starts_with eqb s (48 ∷ 120 ∷ []) ≡ (eqb (get_or s 0 0) 48 && eqb (get_or s 1 0) 120)
      both [] h = absurd (omega arith)
      both (a ∷ []) h = absurd (omega arith)
      both (a ∷ b ∷ s) h = rw (turned 48 a, turned 120 b, and-true (eqb b 120)) refl

  pub marked-long : marked t ≡ true → 2 < length t
  marked-long m = by (ltb 2 (length t)) refl
    where
      by : (b : Bool) → ltb 2 (length t) ≡ b → 2 < length t
      by true p = ltb-true 2 (length t) p
      by false p = absurd (false≢true (sym (too_short (ltb-false 2 (length t) p)) ∙ m))

  pub in-hex : marked t ≡ true → number_of t ≡ number_in 16 (take (length t - 2) (drop 2 t))
  unfolding number_of
  in-hex m = rw (m, take_all (length t - 2) (drop 2 t) (simp length-drop (omega arith)))

  pub in-decimal : marked t ≡ false → number_of t ≡ number_in 10 t
  unfolding number_of
  in-decimal m = rw m
