-- An outcome fixes the answer that stands for it: no two refusals have one number.
use Prim.Native.Nat.{ℕ}
use mathlib.Core.Path.{◌≡◌, refl, sym, ap}
use Rattle.std.specs.Prelude.{◌-◌, [], ◌∷◌, get_or, Option, None, Some, IfSome, Result, Ok, Err, IsErrAnd}
use Rattle.octets.specs.Outcome.{Outcome, refused, given}
use Rattle.octets.specs.Refusals.{number_of, outcome}
use Rattle.octets.specs.declared.refusal.Refusal.{Refusal}
use Rattle.octets.proofs.Outcome.{once}

refusal_of : ℕ → Refusal
refusal_of n = get_or (Refusal.Size ∷ Refusal.Form ∷ Refusal.NotWhole ∷ Refusal.Version ∷ Refusal.LongId ∷ Refusal.Type ∷ Refusal.Short ∷ Refusal.Room ∷ Refusal.Reserved ∷ Refusal.Range ∷ Refusal.Tag ∷ Refusal.Length ∷ Refusal.NoToken ∷ []) (n - 1) Refusal.Gap

refusal-back : (why : Refusal) → refusal_of (number_of why) ≡ why
unfolding refusal_of
refusal-back Refusal.Size = refl
refusal-back Refusal.Form = refl
refusal-back Refusal.NotWhole = refl
refusal-back Refusal.Version = refl
refusal-back Refusal.LongId = refl
refusal-back Refusal.Type = refl
refusal-back Refusal.Short = refl
refusal-back Refusal.Room = refl
refusal-back Refusal.Reserved = refl
refusal-back Refusal.Range = refl
refusal-back Refusal.Tag = refl
refusal-back Refusal.Length = refl
refusal-back Refusal.NoToken = refl
refusal-back Refusal.Gap = refl

pub number-once : {n : ℕ} {x y : Refusal} → number_of x ≡ n → number_of y ≡ n → x ≡ y
number-once = once number_of refusal_of refusal-back

-- a number has one refusal, or none
pub numbered-once : {n : ℕ} {r r' : Option Refusal} → IfSome r (λ why. number_of why ≡ n) → IfSome r' (λ why. number_of why ≡ n)
    → ((why : Refusal) → number_of why ≡ n → r ≡ Some why) → ((why : Refusal) → number_of why ≡ n → r' ≡ Some why) → r ≡ r'
numbered-once {r = Some x} has has' whole whole' = sym (whole' x has)
numbered-once {r = None} {r' = Some y} has has' whole whole' = whole y has'
numbered-once {r = None} {r' = None} has has' whole whole' = refl

-- the answer that stands for an outcome, by what stands for its values
answer_of : {A B : Type 0} → (B → A) → Outcome B → Result A Refusal
answer_of back (refused n) = Err (refusal_of n)
answer_of back (given b) = Ok (back b)

answer-back : {A B : Type 0} (value : A → B) (back : B → A) → ((a : A) → back (value a) ≡ a) → (r : Result A Refusal) → answer_of back (outcome value r) ≡ r
unfolding answer_of
answer-back value back returns (Err why) = ap Err (refusal-back why)
answer-back value back returns (Ok a) = ap Ok (returns a)

pub outcome-once : {A B : Type 0} (value : A → B) (back : B → A) → ((a : A) → back (value a) ≡ a) → {o : Outcome B} {x y : Result A Refusal} → outcome value x ≡ o → outcome value y ≡ o → x ≡ y
outcome-once value back returns = once (outcome value) (answer_of back) (answer-back value back returns)

-- the same of plain numbers
pub plain-once : {o : Outcome ℕ} {x y : Result ℕ Refusal} → outcome (λ n. n) x ≡ o → outcome (λ n. n) y ≡ o → x ≡ y
plain-once = outcome-once (λ n. n) (λ n. n) (λ n. refl)

-- what `?` passes on is the same refusal
pub passed-on : {A B : Type 0} (value : A → B) (r : Result A Refusal) (why : Refusal) → IsErrAnd r (λ passed. passed ≡ why) → outcome value r ≡ refused (number_of why)
passed-on value (Err passed) why is = rw is refl
passed-on value (Ok a) why is = absurd is
