-- What the result reaches, by the components of the graph of pointers: each variable leads back to the result, so those that the result
-- reaches are together with it.
use Rattle.std.proofs.Common.{◌≡◌, ◌⊎◌, inl, inr, ℕ, suc, ◌<◌, Bool, true, false, nat_eq, nat_lt, List, length, get_or, refl, sym, ap, ◌∙◌, subst, arith}
use Rattle.std.specs.Prelude.{◌↔◌, Option, Some, None}
use Rattle.std.proofs.lemmas.Bool.{ltb-true, eqb-true, eq-eqb}
use Rattle.px_components.specs.Graphs.{Reaches, stays, steps, AreTogether}
use Rattle.px_components.proofs.Edges.{along, by_edge}
use Rattle.px_terms.specs.Variables.{place_variables}
use Rattle.px_terms.specs.declared.conjuncts.Content.{Content}
use Rattle.px_terms.specs.declared.conjuncts.Content.TheVariants.{Unwritten, Word, Place, Cell}
use Rattle.px_entry.specs.declared.entries.Entry.{Entry}
use Rattle.px_entry.specs.Regular.{state_cells}
use Rattle.px_leak.specs.Reached.{pointed, pointed_by_result, pointed_by_atom, root, cell, IsReached, is_reached}
use Rattle.px_leak.specs.Pointers.{HasPointers}
use Rattle.px_leak.specs.Reaches.{Knows}
use Rattle.px_leak.specs.declared.reach.Reach.{Reach}
use Rattle.px_leak.proofs.ReachLemmas.{reached_exactly}
use Rattle.px_leak.proofs.Members.{Has, has_from, has_filter, flat_has}

-- ---- what is reached is one of the first variables

pub pointed_below : (n : ℕ) (c : Content) (y : ℕ) → Has (pointed n c) y → y < n
pointed_below n Unwritten y h = absurd h
pointed_below n (Word p) y h = absurd h
pointed_below n (Place a) y h = ltb-true y n (has_filter (λ x. nat_lt x n) (place_variables a) y h).1
pointed_below n (Cell x) y h = absurd h

result_below : (n : ℕ) (o : Option Content) (y : ℕ) → Has (pointed_by_result n o) y → y < n
result_below n None y h = absurd h
result_below n (Some c) y h = pointed_below n c y h

pub reached_below : (x : Entry) (y : ℕ) → IsReached x y → y < length x.vars
reached_below x y (root r) = result_below (length x.vars) x.result y (has_from (pointed_by_result (length x.vars) x.result) y r)
reached_below x y (cell a k r c) =
    let (content, m, own) = flat_has (pointed (length x.vars)) (state_cells a.state) y (has_from (pointed_by_atom (length x.vars) a) y c) in pointed_below (length x.vars) content y own

-- ---- along pointers

module _ (x : Entry) (g : List (List ℕ)) (h : HasPointers x g) where
  abbrev IsMet : ℕ → Type 0
  IsMet y = (y ≡ length x.vars) ⊎ IsReached x y

  met_after : (y z : ℕ) → Reaches g y z → IsMet y → IsMet z
  met_after y z stays m = m
  met_after y z (steps {y = w} e k) m = elim ((h.edges y w).0 e) [
    | inl from ↦ met_after w z k (inr (root from.1))
    | inr rest ↦ (elim rest [
      | inl p ↦ met_after w z k (inr (cell p.0 p.1 (subst (IsReached x) (sym p.2) (place_met m p.3)) p.4))
      | inr back ↦ met_after w z k (inl back.1)
    ])
  ]
    where
      place_met : IsMet y → y < length x.vars → IsReached x y
      place_met (inl e) l = let f : ⊥ = omega arith in absurd f
      place_met (inr r) l = r

  reached_along : (y : ℕ) → IsReached x y → Reaches g (length x.vars) y
  reached_along y (root r) = by_edge ((h.edges (length x.vars) y).1 (inl (refl, r)))
  reached_along y (cell a k r c) =
      along (reached_along a.place.0 r) (by_edge ((h.edges a.place.0 y).1 (inr (inl (a, k, refl, reached_below x a.place.0 r, c)))))

  pub together_is_reached : (y : ℕ) → y < length x.vars → AreTogether g y (length x.vars) ↔ IsReached x y
  together_is_reached y l = (
    λ t. elim (met_after (length x.vars) y t.1 (inl refl)) [ inl e ↦ let f : ⊥ = omega arith in absurd f | inr r ↦ r ],
    λ r. (by_edge ((h.edges y (length x.vars)).1 (inr (inr (l, refl)))), reached_along y r),
  )

pub same_answer : (p q : Bool) → (p ≡ true → q ≡ true) → (q ≡ true → p ≡ true) → p ≡ q
same_answer true q f g = sym (f refl)
same_answer false true f g = g refl
same_answer false false f g = refl

-- ---- by numbers of components

-- the nodes are as many as the numbers
pub numbers_within : (x : Entry) (r : Reach) → Knows x r → length r.numbers.items ≡ suc r.count
numbers_within x r k = k.numbers.numbered ∙ k.pointers.size ∙ ap suc (sym k.count)

pub same_number : (x : Entry) (r : Reach) → Knows x r → (y : ℕ) → y < length x.vars → nat_eq (get_or r.numbers.items y 0) (get_or r.numbers.items r.count 0) ≡ is_reached x y
same_number x r k y l =
    let n = length x.vars in
    let size = k.pointers.size in
    let same = k.numbers.same y n (omega arith) (omega arith) in
    let exact = together_is_reached x k.graph k.pointers y l in
    ap (λ m. nat_eq (get_or r.numbers.items y 0) (get_or r.numbers.items m 0)) k.count
    ∙ same_answer (nat_eq (get_or r.numbers.items y 0) (get_or r.numbers.items n 0)) (is_reached x y)
    (λ e. (reached_exactly x y).1 (exact.0 (same.0 (eqb-true (get_or r.numbers.items y 0) (get_or r.numbers.items n 0) e))))
    (λ e. eq-eqb (get_or r.numbers.items y 0) (get_or r.numbers.items n 0) (same.1 (exact.1 ((reached_exactly x y).0 e))))
