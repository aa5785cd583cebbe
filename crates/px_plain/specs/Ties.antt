-- What the plain equalities of a list of conjuncts say of words and places: which variables they fix,
-- and which they tie to one another. Each fact speaks of all words, or of all places, that the
-- equalities allow.
use Rattle.std.specs.Prelude.{◌≡◌, ◌≢◌, ℕ, ◌+◌, ◌%◌, ◌^◌, ◌<◌, ◌≤◌, ◌⊎◌, ◌<ℤ◌, ◌≤ℤ◌, List, All, Any, Some, slice_get, ⊤}
use Rattle.px_terms.specs.Words.{signed, IsQuotient}
use Rattle.px_terms.specs.Polynomials.{value_of}
use Rattle.px_terms.specs.Variables.{mentioned}
use Rattle.px_terms.specs.Conjuncts.{IsPlainSum, IsPlain}
use Rattle.px_terms.specs.declared.variables.VarInfo.{VarInfo}
use Rattle.px_terms.specs.declared.conjuncts.Place.{Place}
use Rattle.px_terms.specs.declared.conjuncts.Place.TheVariants as place
use Rattle.px_terms.specs.declared.conjuncts.Conj.{Conj}
use Rattle.px_terms.specs.declared.conjuncts.Conj.TheVariants.{Equal, Unequal, Less, AtMost, SamePlace, OtherPlace, Written, Unwritten, Quotient}

-- ---- words

-- a conjunct on words
abbrev pub IsOnWords : Conj → Type 0
IsOnWords (Equal p) = ⊤
IsOnWords (Unequal p) = ⊤
IsOnWords (Less p q) = ⊤
IsOnWords (AtMost p q) = ⊤
IsOnWords (SamePlace a b) = ⊥
IsOnWords (OtherPlace a b) = ⊥
IsOnWords (Written x) = ⊥
IsOnWords (Unwritten x) = ⊥
IsOnWords (Quotient x p q) = ⊤

-- a conjunct on words is true where its variables have these words
abbrev pub IsTrueOf : (ℕ → ℕ) → Conj → Type 0
IsTrueOf w (Equal p) = value_of w p ≡ 0
IsTrueOf w (Unequal p) = value_of w p ≢ 0
IsTrueOf w (Less p q) = signed (value_of w p) <ℤ signed (value_of w q)
IsTrueOf w (AtMost p q) = signed (value_of w p) ≤ℤ signed (value_of w q)
IsTrueOf w (SamePlace a b) = ⊤
IsTrueOf w (OtherPlace a b) = ⊤
IsTrueOf w (Written x) = ⊤
IsTrueOf w (Unwritten x) = ⊤
IsTrueOf w (Quotient x p q) = IsQuotient (w x.0 % 2 ^ 32) (value_of w p) (value_of w q)

-- where the conjunct is a plain equality of words, it is true of these
abbrev pub KeepsTie : (ℕ → ℕ) → Conj → Type 0
KeepsTie w (Equal p) = IsPlainSum p.monomials → value_of w p ≡ 0
KeepsTie w (Unequal p) = ⊤
KeepsTie w (Less p q) = ⊤
KeepsTie w (AtMost p q) = ⊤
KeepsTie w (SamePlace a b) = ⊤
KeepsTie w (OtherPlace a b) = ⊤
KeepsTie w (Written x) = ⊤
KeepsTie w (Unwritten x) = ⊤
KeepsTie w (Quotient x p q) = ⊤

-- the words keep the plain equalities
abbrev pub KeepsTies : (ℕ → ℕ) → List Conj → Type 0
KeepsTies w conjuncts = All (KeepsTie w) conjuncts

-- x is tied to y: whatever words keep the equalities, that of x is c above that of y
abbrev pub IsTied : List Conj → ℕ → ℕ → ℕ → Type 0
IsTied conjuncts x y c = (w : ℕ → ℕ) → KeepsTies w conjuncts → w x % 2 ^ 32 ≡ (w y + c) % 2 ^ 32

-- x is tied to the constant c
abbrev pub IsFixedAt : List Conj → ℕ → ℕ → Type 0
IsFixedAt conjuncts x c = (w : ℕ → ℕ) → KeepsTies w conjuncts → w x % 2 ^ 32 ≡ c % 2 ^ 32

abbrev pub IsFixed : List Conj → ℕ → Type 0
IsFixed conjuncts x = (c : ℕ) × IsFixedAt conjuncts x c

-- x isn't fixed, and r is the least variable to which it is tied
pub record HasRepresentative (conjuncts : List Conj) (x r : ℕ) : Type 0 where
  pub above : ℕ
  pub tied : IsTied conjuncts x r above
  pub least : (y c : ℕ) → y < r → ¬ IsTied conjuncts x y c
  pub free : ¬ IsFixed conjuncts x

-- r isn't fixed, and is the least variable to which it is tied
abbrev pub IsRepresentative : List Conj → ℕ → Type 0
IsRepresentative conjuncts r = HasRepresentative conjuncts r r

-- a conjunct on words mentions a variable with the representative r, even where it would cancel
abbrev pub Touches : List Conj → ℕ → Conj → Type 0
Touches conjuncts r c = IsOnWords c × Any (λ x. HasRepresentative conjuncts x r) (mentioned c)

-- some conjunct touches both
abbrev pub AreTouched : List Conj → ℕ → ℕ → Type 0
AreTouched conjuncts r s = Any (λ c. Touches conjuncts r c × Touches conjuncts s c) conjuncts

-- each variable of the conjunct is fixed, or has a representative of at most r
abbrev pub IsSettled : List Conj → ℕ → Conj → Type 0
IsSettled conjuncts r c = All (λ x. IsFixed conjuncts x ⊎ ((s : ℕ) × (s ≤ r) × HasRepresentative conjuncts x s)) (mentioned c)

-- the words make the plain conjuncts true that are settled at r
abbrev pub MakesSettledTrue : (ℕ → ℕ) → List Conj → ℕ → Type 0
MakesSettledTrue w conjuncts r = All (λ c. IsPlain c → IsSettled conjuncts r c → IsTrueOf w c) conjuncts

-- the word of r is the least that its plain conjuncts leave it beside the words of lower representatives:
-- other words that keep the equalities, are the same at the lower representatives that a conjunct
-- touches together with r, and make true what is settled at r, have no less at r
pub record TakesLeast (conjuncts : List Conj) (w : ℕ → ℕ) (r : ℕ) : Type 0 where
  pub least : (u : ℕ → ℕ) → KeepsTies u conjuncts
      → ((s : ℕ) → s < r → IsRepresentative conjuncts s → AreTouched conjuncts r s → u s % 2 ^ 32 ≡ w s % 2 ^ 32)
      → MakesSettledTrue u conjuncts r → w r % 2 ^ 32 ≤ u r % 2 ^ 32

-- ---- places

-- the number of a place: 0 for null
abbrev pub number_at : (ℕ → ℕ) → Place → ℕ
number_at w place.Null = 0
number_at w (place.Var x) = w x.0

-- where the conjunct is `SamePlace`, these numbers are the same
abbrev pub KeepsPlace : (ℕ → ℕ) → Conj → Type 0
KeepsPlace w (Equal p) = ⊤
KeepsPlace w (Unequal p) = ⊤
KeepsPlace w (Less p q) = ⊤
KeepsPlace w (AtMost p q) = ⊤
KeepsPlace w (SamePlace a b) = number_at w a ≡ number_at w b
KeepsPlace w (OtherPlace a b) = ⊤
KeepsPlace w (Written x) = ⊤
KeepsPlace w (Unwritten x) = ⊤
KeepsPlace w (Quotient x p q) = ⊤

abbrev pub KeepsPlaces : (ℕ → ℕ) → List Conj → Type 0
KeepsPlaces w conjuncts = All (KeepsPlace w) conjuncts

-- whatever numbers keep the equalities of places, those of x and y are the same
abbrev pub IsSamePlace : List Conj → ℕ → ℕ → Type 0
IsSamePlace conjuncts x y = (w : ℕ → ℕ) → KeepsPlaces w conjuncts → w x ≡ w y

-- x is tied to null
abbrev pub IsTiedToNull : List Conj → ℕ → Type 0
IsTiedToNull conjuncts x = (w : ℕ → ℕ) → KeepsPlaces w conjuncts → w x ≡ 0

-- two variables that are the same place as x have different types
pub record HasTwoTypes (vars : List VarInfo) (conjuncts : List Conj) (x : ℕ) : Type 0 where
  pub first : ℕ
  pub second : ℕ
  pub one : VarInfo
  pub other : VarInfo
  pub is_first : slice_get vars first ≡ Some one
  pub is_second : slice_get vars second ≡ Some other
  pub same_first : IsSamePlace conjuncts x first
  pub same_second : IsSamePlace conjuncts x second
  pub types : one.value ≢ other.value

-- x can be nothing but null
abbrev pub IsNullPlace : List VarInfo → List Conj → ℕ → Type 0
IsNullPlace vars conjuncts x = IsTiedToNull conjuncts x ⊎ HasTwoTypes vars conjuncts x

-- ---- nothing written

-- the conjunct says that x is unwritten
abbrev pub SaysUnwritten : ℕ → Conj → Type 0
SaysUnwritten x (Equal p) = ⊥
SaysUnwritten x (Unequal p) = ⊥
SaysUnwritten x (Less p q) = ⊥
SaysUnwritten x (AtMost p q) = ⊥
SaysUnwritten x (SamePlace a b) = ⊥
SaysUnwritten x (OtherPlace a b) = ⊥
SaysUnwritten x (Written y) = ⊥
SaysUnwritten x (Unwritten y) = y.0 ≡ x
SaysUnwritten x (Quotient y p q) = ⊥

-- some conjunct says so
abbrev pub IsSaidUnwritten : List Conj → ℕ → Type 0
IsSaidUnwritten conjuncts x = Any (SaysUnwritten x) conjuncts
