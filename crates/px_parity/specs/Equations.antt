-- Equations modulo 2 as rows of bits: the bit 0 is the constant's, and the bit x + 1 that of the variable x.
use Rattle.std.specs.Prelude.{◌≡◌, ◌↔◌, ℕ, zero, suc, ◌+◌, ◌*◌, ◌/◌, ◌%◌, ◌-◌, ◌<◌, ◌≤◌, List, [], ◌∷◌, Bool, true, false, All, length, take, nat_eq, ⊤}
use Rattle.px_terms.specs.Terms.{Term, value_at}
use Rattle.px_terms.specs.declared.conjuncts.Conj.{Conj}
use Rattle.px_terms.specs.declared.conjuncts.Conj.TheVariants.{Equal, Unequal, Less, AtMost, SamePlace, OtherPlace, Written, Unwritten, Quotient}
use Rattle.px_parity.specs.declared.elimination.Pivot.{Pivot}
use Rattle.px_parity.specs.declared.elimination.Mark.{Mark}
use Rattle.px_parity.specs.declared.elimination.Mark.TheVariants.{Implied, Added, Refuted}
use Rattle.px_parity.specs.Bits.{bit_of, parity}

abbrev pub odd : ℕ → Bool
odd n = nat_eq (n % 2) 1

-- the values of the columns: the constant's is 1, and that of a variable is its parity
abbrev pub columns : (ℕ → ℕ) → ℕ → Bool
columns v zero = true
columns v (suc x) = odd (v x)

-- the column of a product of at most one variable
abbrev pub column_of : List ℕ → ℕ
column_of [] = 0
column_of (x ∷ xs) = x + 1

-- more than `last` columns, in words of 64
abbrev pub row_length : ℕ → ℕ
row_length last = 64 * (last / 64 + 1)

-- each term has at most one variable
abbrev pub IsLinear : List Term → Type 0
IsLinear ts = All (λ t. length t.vars ≤ 1) ts

-- the terms' columns are below `count`
abbrev pub HasColumns : ℕ → List Term → Type 0
HasColumns count ts = All (λ t. column_of t.vars < count) ts

-- the row has the parity of the sum
abbrev pub Says : List Bool → ℕ → List Term → Type 0
Says row c ts = (v : ℕ → ℕ) → parity (columns v) row ≡ odd (c + value_at v ts)

-- ---- elimination

-- the equations of all rows hold
abbrev pub AreEven : (ℕ → Bool) → List Pivot → Type 0
AreEven w ps = All (λ p. parity w p.row ≡ false) ps

-- the lead of a row is a variable's, and is set
pub record IsPivot (p : Pivot) : Type 0 where
  pub variable : 0 < p.lead
  pub is_set : bit_of p.row p.lead ≡ true

-- the leads of the rows aren't set in the row
abbrev pub IsCleared : List Bool → List Pivot → Type 0
IsCleared row ps = All (λ q. bit_of row q.lead ≡ false) ps

-- rows in none of which the lead of an earlier one is set
pub data IsTriangular : List Pivot → Type 0 where
  no_rows : IsTriangular []
  row_before : {p : Pivot} {ps : List Pivot} → IsPivot p → All (λ q. bit_of q.row p.lead ≡ false) ps → IsTriangular ps → IsTriangular (p ∷ ps)

-- all pivots but the last
abbrev pub but_last : List Pivot → List Pivot
but_last ps = take (length ps - 1) ps

-- an equation beside others holds where `says` does: by its mark the others imply it, or it is one pivot more, or it contradicts them
abbrev pub AddsEquation : Mark → List Pivot → List Pivot → ((ℕ → ℕ) → Type 0) → Type 0
AddsEquation Implied old new says = (new ≡ old) × ((v : ℕ → ℕ) → AreEven (columns v) old → says v)
AddsEquation Added old new says = IsTriangular new × (but_last new ≡ old) × ((v : ℕ → ℕ) → AreEven (columns v) new ↔ (AreEven (columns v) old × says v))
AddsEquation Refuted old new says = (new ≡ old) × ((v : ℕ → ℕ) → AreEven (columns v) old → ¬ says v)

-- ---- conjuncts

-- the variables of an equality are below 65,536
abbrev pub IsInColumns : Conj → Type 0
IsInColumns (Equal p) = HasColumns 65537 p.monomials
IsInColumns (Unequal p) = ⊤
IsInColumns (Less p q) = ⊤
IsInColumns (AtMost p q) = ⊤
IsInColumns (SamePlace a b) = ⊤
IsInColumns (OtherPlace a b) = ⊤
IsInColumns (Written y) = ⊤
IsInColumns (Unwritten y) = ⊤
IsInColumns (Quotient x p q) = ⊤
