-- When conjuncts are true, well sorted and plain.
use Rattle.std.specs.Prelude.{◌≡◌, ◌≢◌, ℕ, ◌-◌, ◌%◌, ◌^◌, ◌<◌, ◌≤◌, ◌<ℤ◌, ◌≤ℤ◌, ◌⊎◌, List, [], ◌∷◌, All, length, IsSomeAnd, slice_get, ⊤}
use Rattle.px_terms.specs.Words.{signed, IsQuotient}
use Rattle.px_terms.specs.Terms.{Term}
use Rattle.px_terms.specs.Polynomials.{Polynomial, value_of}
use Rattle.px_terms.specs.Variables.{variables_of}
use Rattle.px_terms.specs.Valuations.{Valuation, numbers_of, IsWord, IsPlace, IsUnwritten}
use Rattle.px_terms.specs.declared.types.Value.{Value}
use Rattle.px_terms.specs.declared.types.Value.TheVariants as value
use Rattle.px_terms.specs.declared.types.TypeId.{TypeId}
use Rattle.px_terms.specs.declared.types.ValueType.TheVariants.{Int, Pointer}
use Rattle.px_terms.specs.declared.variables.VarInfo.{VarInfo}
use Rattle.px_terms.specs.declared.conjuncts.Place.{Place}
use Rattle.px_terms.specs.declared.conjuncts.Place.TheVariants as place
use Rattle.px_terms.specs.declared.conjuncts.Conj.{Conj}
use Rattle.px_terms.specs.declared.conjuncts.Conj.TheVariants.{Equal, Unequal, Less, AtMost, SamePlace, OtherPlace, Written, Unwritten, Quotient}

-- ---- truth

-- each variable of the polynomial has a word
abbrev pub HasWords : Valuation → Polynomial → Type 0
HasWords v p = All (λ x. IsWord (v x)) (variables_of p)

-- the word of a polynomial
abbrev pub word_of : Valuation → Polynomial → ℕ
word_of v p = value_of (numbers_of v) p

-- what a place is
abbrev pub place_of : Valuation → Place → Value
place_of v place.Null = value.Null
place_of v (place.Var x) = v x.0

-- both are null or blocks
abbrev pub ArePlaces : Valuation → Place → Place → Type 0
ArePlaces v a b = IsPlace (place_of v a) × IsPlace (place_of v b)

-- a conjunct is true: its variables have words, or null or blocks, and the relation holds of them
abbrev pub IsTrueUnder : Valuation → Conj → Type 0
IsTrueUnder v (Equal p) = HasWords v p × (word_of v p ≡ 0)
IsTrueUnder v (Unequal p) = HasWords v p × (word_of v p ≢ 0)
IsTrueUnder v (Less p q) = HasWords v p × HasWords v q × (signed (word_of v p) <ℤ signed (word_of v q))
IsTrueUnder v (AtMost p q) = HasWords v p × HasWords v q × (signed (word_of v p) ≤ℤ signed (word_of v q))
IsTrueUnder v (SamePlace a b) = ArePlaces v a b × (place_of v a ≡ place_of v b)
IsTrueUnder v (OtherPlace a b) = ArePlaces v a b × (place_of v a ≢ place_of v b)
IsTrueUnder v (Written x) = ¬ IsUnwritten (v x.0)
IsTrueUnder v (Unwritten x) = IsUnwritten (v x.0)
IsTrueUnder v (Quotient x p q) = IsWord (v x.0) × HasWords v p × HasWords v q × IsQuotient (numbers_of v x.0 % 2 ^ 32) (word_of v p) (word_of v q)

-- ---- sorts

-- a variable of the list that is an `int`
abbrev pub IsIntVariable : List VarInfo → ℕ → Type 0
IsIntVariable vars x = IsSomeAnd (slice_get vars x) (λ i. i.value ≡ Int)

-- a variable of the list that is a pointer
abbrev pub IsPointerVariable : List VarInfo → ℕ → Type 0
IsPointerVariable vars x = IsSomeAnd (slice_get vars x) (λ i. (t : TypeId) × (i.value ≡ Pointer t))

-- a polynomial of `int` variables alone
abbrev pub IsIntPolynomial : List VarInfo → Polynomial → Type 0
IsIntPolynomial vars p = All (IsIntVariable vars) (variables_of p)

-- null or a pointer variable
abbrev pub IsPointerPlace : List VarInfo → Place → Type 0
IsPointerPlace vars place.Null = ⊤
IsPointerPlace vars (place.Var x) = IsPointerVariable vars x.0

-- a conjunct mentions variables of the list alone, each by its type
abbrev pub IsWellSorted : List VarInfo → Conj → Type 0
IsWellSorted vars (Equal p) = IsIntPolynomial vars p
IsWellSorted vars (Unequal p) = IsIntPolynomial vars p
IsWellSorted vars (Less p q) = IsIntPolynomial vars p × IsIntPolynomial vars q
IsWellSorted vars (AtMost p q) = IsIntPolynomial vars p × IsIntPolynomial vars q
IsWellSorted vars (SamePlace a b) = IsPointerPlace vars a × IsPointerPlace vars b
IsWellSorted vars (OtherPlace a b) = IsPointerPlace vars a × IsPointerPlace vars b
IsWellSorted vars (Written x) = x.0 < length vars
IsWellSorted vars (Unwritten x) = x.0 < length vars
IsWellSorted vars (Quotient x p q) = IsIntVariable vars x.0 × IsIntPolynomial vars p × IsIntPolynomial vars q

-- a list of conjuncts is well sorted over a list of variables
pub record AreWellSorted (vars : List VarInfo) (conjuncts : List Conj) : Type 0 where
  pub few_variables : length vars ≤ 65536
  pub few_conjuncts : length conjuncts ≤ 65536
  pub sorted : All (IsWellSorted vars) conjuncts

-- ---- plain conjuncts

-- the coefficient is 1 or -1
abbrev pub IsUnit : ℕ → Type 0
IsUnit c = (c ≡ 1) ⊎ (c ≡ 2 ^ 32 - 1)

-- one is 1 and the other -1
abbrev pub AreOpposite : ℕ → ℕ → Type 0
AreOpposite c d = ((c ≡ 1) × (d ≡ 2 ^ 32 - 1)) ⊎ ((c ≡ 2 ^ 32 - 1) × (d ≡ 1))

-- beside a constant there is nothing, one variable as x or -x, or the difference of two
abbrev pub IsPlainSum : List Term → Type 0
IsPlainSum [] = ⊤
IsPlainSum (s ∷ []) = (length s.vars ≡ 1) × IsUnit s.coefficient
IsPlainSum (s ∷ t ∷ []) = (length s.vars ≡ 1) × (length t.vars ≡ 1) × AreOpposite s.coefficient t.coefficient
IsPlainSum (s ∷ t ∷ u ∷ us) = ⊥

-- a conjunct that is decided by closing equalities, without a search
abbrev pub IsPlain : Conj → Type 0
IsPlain (Equal p) = IsPlainSum p.monomials
IsPlain (Unequal p) = IsPlainSum p.monomials
IsPlain (Less p q) = ⊥
IsPlain (AtMost p q) = ⊥
IsPlain (SamePlace a b) = ⊤
IsPlain (OtherPlace a b) = ⊤
IsPlain (Written x) = ⊤
IsPlain (Unwritten x) = ⊤
IsPlain (Quotient x p q) = ⊥

-- a valuation makes the plain conjuncts true
abbrev pub MakesPlainTrue : Valuation → List Conj → Type 0
MakesPlainTrue v conjuncts = All (λ c. IsPlain c → IsTrueUnder v c) conjuncts
