-- Rows and the conjuncts that they stand for; a list that the rule rules out is true under no valuation.
use Rattle.std.proofs.Common.{◌≡◌, ◌↔◌, ℕ, ◌+◌, ◌<◌, ◌≤◌, List, [], ◌∷◌, ◌++◌, length, get_or, Bool, false, sym, subst, ◌∙◌, arith}
use Rattle.std.specs.Prelude.{All, flat_map}
use Rattle.std.proofs.lemmas.List.Elements.{All-nil, All-cons, All-head, All-tail}
use Rattle.px_terms.specs.Terms.{Term, value_at}
use Rattle.px_terms.specs.Polynomials.{Polynomial}
use Rattle.px_terms.specs.Variables.{mentioned, variables_of}
use Rattle.px_terms.specs.Valuations.{numbers_of}
use Rattle.px_terms.specs.Conjuncts.{IsWellSorted, AreWellSorted}
use Rattle.px_terms.specs.Rules.{HoldsModuloTwo}
use Rattle.px_terms.specs.declared.variables.VarInfo.{VarInfo}
use Rattle.px_terms.specs.declared.conjuncts.Conj.{Conj}
use Rattle.px_terms.specs.declared.conjuncts.Conj.TheVariants.{Equal, Unequal, Less, AtMost, SamePlace, OtherPlace, Written, Unwritten, Quotient}
use Rattle.px_parity.specs.declared.elimination.Pivot.{Pivot}
use Rattle.px_parity.specs.declared.elimination.Mark.{Mark}
use Rattle.px_parity.specs.declared.elimination.Mark.TheVariants.{Implied, Added, Refuted}
use Rattle.px_parity.specs.Bits.{parity}
use Rattle.px_parity.specs.Equations.{columns, column_of, IsLinear, HasColumns, Says, AddsEquation, IsInColumns}
use Rattle.px_parity.specs.Laws.{RuledOutHaveNoModel}
use Rattle.px_parity.proofs.Sums.{odd_zero, even_not_odd}
use Rattle.px_terms.proofs.DomainLemmas.{int_below, true_modulo_two}

-- ---- one conjunct

-- the row of an equality is even exactly where this holds
even_exactly : (v : ℕ → ℕ) (p : Polynomial) (row : List Bool) → IsLinear p.monomials → Says row p.constant p.monomials → (parity (columns v) row ≡ false) ↔ HoldsModuloTwo v (Equal p)
even_exactly v p row linear says = (
  λ e _. even_not_odd (p.constant + value_at v p.monomials) (sym (says v) ∙ e),
  λ h. says v ∙ odd_zero (p.constant + value_at v p.monomials) (h linear),
)

adds_alike : (mark : Mark) (ps new : List Pivot) (P Q : (ℕ → ℕ) → Type 0) → ((v : ℕ → ℕ) → P v ↔ Q v) → AddsEquation mark ps new P → AddsEquation mark ps new Q
adds_alike Implied ps new P Q same h = (h.0, λ v a. (same v).0 (h.1 v a))
adds_alike Added ps new P Q same h = (
  h.0,
  h.1,
  λ v. (λ a. let b = (h.2 v).0 a in (b.0, (same v).0 b.1), λ (a, b). (h.2 v).1 (a, (same v).1 b)),
)
adds_alike Refuted ps new P Q same h = (h.0, λ v a b. h.1 v a ((same v).1 b))

-- to add the row is to add the conjunct
pub adds_conjunct : (mark : Mark) (ps new : List Pivot) (p : Polynomial) (c : Conj) (row : List Bool) → c ≡ Equal p → IsLinear p.monomials → Says row p.constant p.monomials
    → AddsEquation mark ps new (λ v. parity (columns v) row ≡ false) → AddsEquation mark ps new (λ v. HoldsModuloTwo v c)
adds_conjunct mark ps new p c row e linear says h =
    subst (λ d. AddsEquation mark ps new (λ v. HoldsModuloTwo v d)) (sym e)
    (adds_alike mark ps new (λ v. parity (columns v) row ≡ false) (λ v. HoldsModuloTwo v (Equal p)) (λ v. even_exactly v p row linear says) h)

-- ---- columns

column_below : (xs : List ℕ) → All (λ x. x < 65536) xs → column_of xs < 65537
column_below [] h = omega arith
column_below (x ∷ xs) h = let l = All-head (λ y. y < 65536) x xs h in omega arith

module _ (P : ℕ → Type 0) where
  front : (xs ys : List ℕ) → All P (xs ++ ys) → All P xs
  front [] ys h = All-nil P
  front (x ∷ xs) ys h = All-cons P x xs (All-head P x (xs ++ ys) h) (front xs ys (All-tail P x (xs ++ ys) h))

  behind : (xs ys : List ℕ) → All P (xs ++ ys) → All P ys
  behind [] ys h = h
  behind (x ∷ xs) ys h = behind xs ys (All-tail P x (xs ++ ys) h)

terms_below : (ts : List Term) → All (λ x. x < 65536) (flat_map (λ (t : Term). t.vars) ts) → HasColumns 65537 ts
terms_below [] h = All-nil (λ (t : Term). column_of t.vars < 65537)
terms_below (t ∷ ts) h =
    let rest = flat_map (λ (s : Term). s.vars) ts in
    All-cons (λ (s : Term). column_of s.vars < 65537) t ts
    (column_below t.vars (front (λ x. x < 65536) t.vars rest h))
    (terms_below ts (behind (λ x. x < 65536) t.vars rest h))

pub mentioned_in_columns : (c : Conj) → All (λ x. x < 65536) (mentioned c) → IsInColumns c
mentioned_in_columns (Equal p) h = terms_below p.monomials h
mentioned_in_columns (Unequal p) h = tt
mentioned_in_columns (Less p q) h = tt
mentioned_in_columns (AtMost p q) h = tt
mentioned_in_columns (SamePlace a b) h = tt
mentioned_in_columns (OtherPlace a b) h = tt
mentioned_in_columns (Written y) h = tt
mentioned_in_columns (Unwritten y) h = tt
mentioned_in_columns (Quotient x p q) h = tt

sorted_in_columns : (vars : List VarInfo) → length vars ≤ 65536 → (c : Conj) → IsWellSorted vars c → IsInColumns c
sorted_in_columns vars few (Equal p) h = terms_below p.monomials (λ k d l. let m = int_below vars (get_or (variables_of p) k d) (h k d l) in omega arith)
sorted_in_columns vars few (Unequal p) h = tt
sorted_in_columns vars few (Less p q) h = tt
sorted_in_columns vars few (AtMost p q) h = tt
sorted_in_columns vars few (SamePlace a b) h = tt
sorted_in_columns vars few (OtherPlace a b) h = tt
sorted_in_columns vars few (Written y) h = tt
sorted_in_columns vars few (Unwritten y) h = tt
sorted_in_columns vars few (Quotient x p q) h = tt

pub columns_at : (vars : List VarInfo) (cs : List Conj) (i : ℕ) (c : Conj) → AreWellSorted vars cs → i < length cs → c ≡ get_or cs i c → IsInColumns c
columns_at vars cs i c h l e = sorted_in_columns vars h.few_variables c (subst (IsWellSorted vars) (sym e) (h.sorted i c l))

-- ---- valuations

pub ruled_out : RuledOutHaveNoModel
ruled_out = record { none = λ cs r v t. r (numbers_of v) (λ k d l. true_modulo_two v (get_or cs k d) (t k d l)) }
