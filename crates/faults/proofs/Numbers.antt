-- No two reasons, and no two of the recorder's answers, have the same number: one test that is computed over an enum's variants.
use Prim.Native.Nat.{ℕ}
use mathlib.Core.Bool.{Bool, true, not, ◌&&◌}
use mathlib.Core.List.{List, [], ◌∷◌}
use mathlib.Core.Logic.{inl, inr}
use mathlib.Core.Path.{◌≡◌, refl, ap, sym, ◌∙◌}
use borrow.Author.Tests.{eq-eqb}
use native.Mathlib.Omega.{arith}
use denote.Enum.Declared.{Record, Choice, values_one}
use denote.Struct.Field.{Field}
use lib.Dec.{eqb}
use Rattle.image.proofs.Choices.{both}
use Rattle.faults.specs.Answers.{answer_of}
use Rattle.faults.specs.Reason.{number_of}
use Rattle.faults.specs.declared.reason.Reason.{Reason}
use Rattle.faults.specs.declared.recorder.RecorderAnswer.{RecorderAnswer}
use Rattle.faults.specs.contracts.reason.Reason as reason
use Rattle.faults.specs.contracts.recorder.RecorderAnswer as answer

-- variants that hold nothing
abbrev Bare : List (List Field) → Type 0
Bare [] = Unit {0}
Bare ([] ∷ variants) = Bare variants
Bare ((field ∷ fields) ∷ variants) = ⊥

-- no variant has the number n
abbrev avoids : (variants : List (List Field)) → Bare variants → (Choice variants → ℕ) → ℕ → Bool
avoids [] bare number n = true
avoids ([] ∷ variants) bare number n = not (eqb (number (inl tt)) n) && avoids variants bare (λ c. number (inr c)) n
avoids ((field ∷ fields) ∷ variants) bare number n = true

-- no two have the same
abbrev distinct : (variants : List (List Field)) → Bare variants → (Choice variants → ℕ) → Bool
distinct [] bare number = true
distinct ([] ∷ variants) bare number =
    avoids variants bare (λ c. number (inr c)) (number (inl tt)) && distinct variants bare (λ c. number (inr c))
distinct ((field ∷ fields) ∷ variants) bare number = true

avoided : (variants : List (List Field)) (bare : Bare variants) (number : Choice variants → ℕ) (n : ℕ)
    → avoids variants bare number n ≡ true → (c : Choice variants) → number c ≡ n → ⊥
avoided [] bare number n h c same = elim c [ ]
avoided ([] ∷ variants) bare number n h (inl v) same =
    let clash : eqb (number (inl tt)) n ≡ true = eq-eqb _ _ same in
    let h1 = (both (not (eqb (number (inl tt)) n)) _ h).0 in
    let h2 : not true ≡ true = rw clash at h1 in
    let z : ◌≡◌ {A = ℕ} 0 1 = cc in omega arith
avoided ([] ∷ variants) bare number n h (inr c) same =
    avoided variants bare (λ c. number (inr c)) n (both (not (eqb (number (inl tt)) n)) _ h).1 c same
avoided ((field ∷ fields) ∷ variants) bare number n h c same = bare

one-to-one : (variants : List (List Field)) (bare : Bare variants) (number : Choice variants → ℕ)
    → distinct variants bare number ≡ true → (c d : Choice variants) → number c ≡ number d → c ≡ d
one-to-one [] bare number h c d same = elim c [ ]
one-to-one ([] ∷ variants) bare number h (inl v) (inl w) same = refl
one-to-one ([] ∷ variants) bare number h (inl v) (inr d) same =
    absurd (avoided variants bare (λ c. number (inr c)) (number (inl tt)) (both (avoids variants bare (λ c. number (inr c)) (number (inl tt))) _ h).0 d (sym same))
one-to-one ([] ∷ variants) bare number h (inr c) (inl w) same =
    absurd (avoided variants bare (λ c. number (inr c)) (number (inl tt)) (both (avoids variants bare (λ c. number (inr c)) (number (inl tt))) _ h).0 c same)
one-to-one ([] ∷ variants) bare number h (inr c) (inr d) same =
    ap inr (one-to-one variants bare (λ c. number (inr c)) (both (avoids variants bare (λ c. number (inr c)) (number (inl tt))) _ h).1 c d same)
one-to-one ((field ∷ fields) ∷ variants) bare number h c d same = absurd bare

-- so the numbers of an enum's values are distinct where the test says so
numbered : (N : Record) (bare : Bare N.parts) (number : N.D → ℕ) → distinct N.parts bare (λ c. number (N.make c)) ≡ true
    → (x y : N.D) → number x ≡ number y → x ≡ y
numbered N bare number h x y same =
    values_one N x y
    (one-to-one N.parts bare (λ c. number (N.make c)) h (N.as_values x) (N.as_values y) (ap number (N.eta x) ∙ same ∙ ap number (sym (N.eta y))))

pub number_of-injective : (r s : Reason) → number_of r ≡ number_of s → r ≡ s
number_of-injective = numbered reason.enum tt number_of refl

pub answer_of-injective : (a b : RecorderAnswer) → answer_of a ≡ answer_of b → a ≡ b
answer_of-injective = numbered answer.enum tt answer_of refl
