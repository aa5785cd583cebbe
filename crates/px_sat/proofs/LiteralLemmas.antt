-- Literals and their negations.
use Rattle.std.proofs.Common.{◌≡◌, ◌≢◌, ℕ, Bool, true, false, not, refl, sym, ap, ap₂, ◌∙◌, ◌⊎◌, inl, inr}
use Rattle.std.proofs.lemmas.Bool.{cases_eq}
use Rattle.px_cnf.specs.Clauses.{negated}
use Rattle.px_cnf.specs.declared.literal.Literal.{Literal}

not_twice : (b : Bool) → not (not b) ≡ b
not_twice true = refl
not_twice false = refl

pub not_self : (b : Bool) → b ≢ not b
not_self true e = let f : true ≡ false = e in cc
not_self false e = let f : false ≡ true = e in cc

-- two signs are the same or each other's negation
signs : (a b : Bool) → (a ≡ b) ⊎ (a ≡ not b)
signs true true = inl refl
signs true false = inr refl
signs false true = inr refl
signs false false = inl refl

pub same_parts : (a b : Literal) → a.variable ≡ b.variable → a.positive ≡ b.positive → a ≡ b
same_parts a b e f = ap₂ (λ (x : ℕ) (p : Bool). record { variable = x; positive = p }) e f

pub negated_twice : (l : Literal) → negated (negated l) ≡ l
negated_twice l = same_parts _ _ refl (not_twice l.positive)

-- literals of one variable are the same or each other's negation
pub sides : (a b : Literal) → a.variable ≡ b.variable → (a ≡ b) ⊎ (a ≡ negated b)
sides a b e = elim (signs a.positive b.positive) [
  | inl f ↦ inl (same_parts a b e f)
  | inr f ↦ inr (same_parts a (negated b) e f)
]

pub not_negated : (l : Literal) → l ≢ negated l
not_negated l e = not_self l.positive (ap (λ (m : Literal). m.positive) e)

pub same_or_not : (a b : Literal) → (a ≡ b) ⊎ (a ≢ b)
same_or_not a b = elim (cases_eq a.variable b.variable) [
  | inl e ↦ (elim (sides a b e) [
    | inl f ↦ inl f
    | inr f ↦ inr (λ g. not_negated b (sym g ∙ f))
  ])
  | inr d ↦ inr (λ g. d (ap (λ (m : Literal). m.variable) g))
]
