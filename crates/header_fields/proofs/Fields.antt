-- Sections 16 and 17.2: what reading one field comes to, by what the tests show; and where a field that is found stands.
use Prim.Native.Nat.{ℕ, ◌+◌, ◌/◌, ◌^◌, ◌≤◌, ◌<◌}
use mathlib.Core.Path.{◌≡◌, sym, ap}
use mathlib.Core.List.{List, []}
use native.Mathlib.Omega.{arith}
use lib.Dec.{leb}
use lib.ListN.{length, get_or, drop, length-drop}
use borrow.Author.Tests.{le-leb, lt-leb, leb-true}
use Rattle.octets.specs.Outcome.{Outcome, refused, given, ◌>>◌}
use Rattle.octets.specs.Octets.{part}
use Rattle.octets.proofs.Outcome.{passed, stepped, given-same}
use Rattle.integers.specs.Integer.{Integer, integer}
use Rattle.header_fields.specs.Fields.{Place, behind, whole, longest_id, least_length, id_at, integer_at, field_at, rest_at}
use Rattle.header_fields.specs.Answers.{handed}

-- a field that was looked for from a place on stands behind that place, and all of it within the datagram
pub record Within (d : List ℕ) (at : ℕ) (p : Place) : Type 0 where
  pub after : at ≤ p.at
  pub inside : behind p ≤ length d

-- an integer takes no more than there is
pub integer-taken : (s : List ℕ) {i : Integer} → given i ≡ integer s → i.taken ≤ length s
unfolding integer
integer-taken s is =
    let some = passed 3 (leb 1 (length s)) _ (sym is) in
    let all = passed 3 (leb (2 ^ (get_or s 0 0 / 64)) (length s)) _ some.1 in
    let same = ap (λ (i : Integer). i.taken) (given-same all.1) in
    omega (arith, leb-true (2 ^ (get_or s 0 0 / 64)) (length s) all.0)

-- as many bytes as were asked for stood at the place that was given
whole-given : (d : List ℕ) (q : Place) {p : Place} → (whole d q.at q.len >> given q) ≡ given p → (q ≡ p) × (behind q ≤ length d)
whole-given d q is =
    let all = passed 3 (leb (behind q) (length d)) _ is in
    (given-same all.1, leb-true (behind q) (length d) all.0)

module _ (d : List ℕ) (at : ℕ) where
  -- ---- a length byte and as many bytes
  pub id-none : length d ≤ at → id_at d at ≡ refused 3
  unfolding id_at
  id-none h = rw (lt-leb (at + 1) (length d) (omega arith))

  pub id-long : at < length d → longest_id < get_or d at 0 → id_at d at ≡ refused 5
  unfolding id_at
  id-long there h = rw (le-leb (at + 1) (length d) (omega arith), lt-leb (get_or d at 0) longest_id h)

  pub id-short : at < length d → get_or d at 0 ≤ longest_id → length d < at + 1 + get_or d at 0 → id_at d at ≡ refused 3
  unfolding id_at
  id-short there fair h =
      rw (le-leb (at + 1) (length d) (omega arith), le-leb (get_or d at 0) longest_id fair, lt-leb (at + 1 + get_or d at 0) (length d) h)

  pub id-whole : at < length d → get_or d at 0 ≤ longest_id → at + 1 + get_or d at 0 ≤ length d
      → id_at d at ≡ given (record { at = at + 1; len = get_or d at 0 })
  unfolding id_at
  id-whole there fair h =
      rw (le-leb (at + 1) (length d) (omega arith), le-leb (get_or d at 0) longest_id fair, le-leb (at + 1 + get_or d at 0) (length d) h)

  pub id-within : {p : Place} → given p ≡ id_at d at → Within d at p
  unfolding id_at
  id-within is =
      let there = passed 3 (leb (at + 1) (length d)) _ (sym is) in
      let fair = passed 5 (leb (get_or d at 0) longest_id) _ there.1 in
      let all = whole-given d (record { at = at + 1; len = get_or d at 0 }) fair.1 in
      rw (← all.0) (record { after = omega arith; inside = all.1 })

  -- ---- an integer
  pub integer-refused : {n : ℕ} → refused n ≡ integer (drop at d) → integer_at d at ≡ refused n
  unfolding integer_at
  integer-refused e = rw (← e)

  pub integer-found : {i : Integer} → given i ≡ integer (drop at d) → integer_at d at ≡ given (record { at = at + i.taken; len = i.value })
  unfolding integer_at
  integer-found e = rw (← e)

  -- it ends within the datagram
  pub integer-end : {p : Place} → at ≤ length d → given p ≡ integer_at d at → (at ≤ p.at) × (p.at ≤ length d)
  unfolding integer_at
  integer-end start is =
      let step = stepped (integer (drop at d)) _ (sym is) in
      let ends = ap (λ (p : Place). p.at) (given-same step.2) in
      let most = integer-taken (drop at d) (sym step.1) in
      omega (arith, length-drop at d)

  -- ---- a length and as many bytes
  pub field-refused : {n : ℕ} → refused n ≡ integer_at d at → field_at d at ≡ refused n
  unfolding field_at
  field-refused e = rw (← e)

  module _ {p : Place} (is : given p ≡ integer_at d at) where
    pub field-short : length d < behind p → field_at d at ≡ refused 3
    unfolding field_at
    field-short h = rw (← is, lt-leb (behind p) (length d) h)

    pub field-whole : behind p ≤ length d → field_at d at ≡ given p
    unfolding field_at
    field-whole h = rw (← is, le-leb (behind p) (length d) h)

  pub field-within : {p : Place} → at ≤ length d → given p ≡ field_at d at → Within d at p
  unfolding field_at
  field-within start is =
      let step = stepped (integer_at d at) _ (sym is) in
      let all = whole-given d step.0 step.2 in
      rw (← all.0) (record { after = (integer-end start (sym step.1)).0; inside = all.1 })

  -- ---- the rest of the packet
  pub rest-refused : {n : ℕ} → refused n ≡ integer_at d at → rest_at d at ≡ refused n
  unfolding rest_at
  rest-refused e = rw (← e)

  module _ {p : Place} (is : given p ≡ integer_at d at) where
    pub rest-small : p.len < least_length → rest_at d at ≡ refused 7
    unfolding rest_at
    rest-small h = rw (← is, lt-leb least_length p.len h)

    pub rest-short : least_length ≤ p.len → length d < behind p → rest_at d at ≡ refused 3
    unfolding rest_at
    rest-short fair h = rw (← is, le-leb least_length p.len fair, lt-leb (behind p) (length d) h)

    pub rest-whole : least_length ≤ p.len → behind p ≤ length d → rest_at d at ≡ given p
    unfolding rest_at
    rest-whole fair h = rw (← is, le-leb least_length p.len fair, le-leb (behind p) (length d) h)

  pub rest-within : {p : Place} → at ≤ length d → given p ≡ rest_at d at → Within d at p × (least_length ≤ p.len)
  unfolding rest_at
  rest-within start is =
      let step = stepped (integer_at d at) _ (sym is) in
      let fair = passed 7 (leb least_length step.0.len) _ step.2 in
      let all = whole-given d step.0 fair.1 in
      rw (← all.0) (record { after = (integer-end start (sym step.1)).0; inside = all.1 }, leb-true least_length step.0.len fair.0)

-- ---- the part that is handed back
pub handed-none : {A : Type 0} {o : Outcome A} {n : ℕ} (place : A → Place) (d : List ℕ) → refused n ≡ o → [] ≡ handed o place d
handed-none place d e = rw (← e)

pub handed-part : {A : Type 0} {o : Outcome A} {a : A} (place : A → Place) (d : List ℕ) → given a ≡ o → part d (place a).at (place a).len ≡ handed o place d
handed-part place d e = rw (← e)
