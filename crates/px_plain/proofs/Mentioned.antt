-- A well-sorted conjunct mentions variables of the list alone.
use Rattle.std.proofs.Common.{ℕ, ◌<◌, ◌++◌, List, [], length}
use Rattle.std.specs.Prelude.{All}
use Rattle.std.proofs.lemmas.List.Elements.{All-nil, All-cons, All-append, All-weaker}
use Rattle.px_terms.specs.Polynomials.{Polynomial}
use Rattle.px_terms.specs.Variables.{mentioned, variables_of, place_variables}
use Rattle.px_terms.specs.Conjuncts.{IsWellSorted, IsIntPolynomial, IsIntVariable, IsPointerPlace}
use Rattle.px_terms.specs.declared.variables.VarInfo.{VarInfo}
use Rattle.px_terms.specs.declared.conjuncts.Place.{Place}
use Rattle.px_terms.specs.declared.conjuncts.Place.TheVariants as place
use Rattle.px_terms.specs.declared.conjuncts.Conj.{Conj}
use Rattle.px_terms.specs.declared.conjuncts.Conj.TheVariants.{Equal, Unequal, Less, AtMost, SamePlace, OtherPlace, Written, Unwritten, Quotient}
use Rattle.px_plain.proofs.Lists.{pointer_inside}
use Rattle.px_terms.proofs.DomainLemmas.{int_below}

module _ (vars : List VarInfo) where
  abbrev Inside : ℕ → Type 0
  Inside x = x < length vars

  of_sum : (p : Polynomial) → IsIntPolynomial vars p → All Inside (variables_of p)
  of_sum p h = All-weaker (IsIntVariable vars) Inside (int_below vars) (variables_of p) h

  of_place : (a : Place) → IsPointerPlace vars a → All Inside (place_variables a)
  of_place place.Null h = All-nil Inside
  of_place (place.Var x) h = All-cons Inside x.0 [] (pointer_inside vars x.0 h) (All-nil Inside)

  pub mentioned_inside : (c : Conj) → IsWellSorted vars c → All (λ x. x < length vars) (mentioned c)
  mentioned_inside (Equal p) h = of_sum p h
  mentioned_inside (Unequal p) h = of_sum p h
  mentioned_inside (Less p q) h = All-append Inside (variables_of p) (variables_of q) (of_sum p h.0) (of_sum q h.1)
  mentioned_inside (AtMost p q) h = All-append Inside (variables_of p) (variables_of q) (of_sum p h.0) (of_sum q h.1)
  mentioned_inside (SamePlace a b) h = All-append Inside (place_variables a) (place_variables b) (of_place a h.0) (of_place b h.1)
  mentioned_inside (OtherPlace a b) h = All-append Inside (place_variables a) (place_variables b) (of_place a h.0) (of_place b h.1)
  mentioned_inside (Written x) h = All-cons Inside x.0 [] h (All-nil Inside)
  mentioned_inside (Unwritten x) h = All-cons Inside x.0 [] h (All-nil Inside)
  mentioned_inside (Quotient x p q) h =
      All-cons Inside x.0 (variables_of p ++ variables_of q) (int_below vars x.0 h.0) (All-append Inside (variables_of p) (variables_of q) (of_sum p h.1) (of_sum q h.2))
