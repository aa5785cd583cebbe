-- The plain conjuncts of a list are true where their parts are; the parts are sorted as the conjuncts are.
use Rattle.std.proofs.Common.{◌≡◌, ℕ, ◌+◌, ◌<◌, ◌≤◌, List, length, get_or, refl, sym, subst, arith}
use Rattle.std.specs.Prelude.{Bool, true, false, Some, All, slice_get}
use Rattle.std.proofs.lemmas.List.Elements.{All-weaker}
use Rattle.std.proofs.lemmas.Option.{slice_get_within, none-some, same_Some}
use Rattle.px_terms.specs.Terms.{Term}
use Rattle.px_terms.specs.Polynomials.{Polynomial}
use Rattle.px_terms.specs.Variables.{variables_of}
use Rattle.px_terms.specs.Valuations.{Valuation, Fits}
use Rattle.px_terms.specs.Conjuncts.{IsTrueUnder, IsPlain, IsWellSorted, AreWellSorted, MakesPlainTrue, IsIntVariable, IsPointerVariable, IsPointerPlace, IsIntPolynomial}
use Rattle.px_terms.specs.declared.types.TypeId.{TypeId}
use Rattle.px_terms.specs.declared.types.ValueType.TheVariants.{Pointer}
use Rattle.px_terms.specs.declared.variables.VarInfo.{VarInfo}
use Rattle.px_terms.specs.declared.conjuncts.Place.{Place}
use Rattle.px_terms.specs.declared.conjuncts.Place.TheVariants as place
use Rattle.px_terms.specs.declared.conjuncts.Conj.{Conj}
use Rattle.px_terms.specs.declared.conjuncts.Conj.TheVariants.{Equal, Unequal, Less, AtMost, SamePlace, OtherPlace, Written, Unwritten, Quotient}
use Rattle.px_plain.specs.declared.nodes.Difference.{Difference}
use Rattle.px_plain.specs.Readings.{of_sum, word_difference, place_difference, unwritten_node, written_node, word_differences, place_differences, unwritten_nodes, written_nodes, node_of, same_or_other, HasSmallVariables}
use Rattle.px_plain.specs.NodeValues.{IsWrittenNode, IsUnwrittenNode, IsTrueOfWords, IsTrueOfPlaces, Satisfies, IsIntNode, IsPointerNode, AreSorted}
use Rattle.px_plain.proofs.Shapes.{shape_of}
use Rattle.px_plain.proofs.SumMeanings.{ends_of_all}
use Rattle.px_plain.proofs.Options.{all_given, given_all, all_parts}
use Rattle.px_plain.proofs.Meanings.{PartsTrue, true_parts, parts_true, info_of}
use Rattle.px_terms.proofs.DomainLemmas.{int_below}

module _ (vars : List VarInfo) (cs : List Conj) where
  pub satisfied : (v : Valuation) → Fits vars v → MakesPlainTrue v cs → Satisfies v (word_differences cs) (place_differences cs) (unwritten_nodes cs) (written_nodes cs)
  satisfied v f h =
      let parts : All (PartsTrue v) cs = All-weaker (λ c. IsPlain c → IsTrueUnder v c) (PartsTrue v) (true_parts vars v f) cs h in
      record {
        words_hold = all_given (IsTrueOfWords v) word_difference cs (λ k d b. (parts k d b).word);
        places_hold = all_given (IsTrueOfPlaces v) place_difference cs (λ k d b. (parts k d b).place);
        are_unwritten = all_given (IsUnwrittenNode v) unwritten_node cs (λ k d b. (parts k d b).unwritten);
        are_written = all_given (IsWrittenNode v) written_node cs (λ k d b. (parts k d b).written);
      }

  pub made_true : All (IsWellSorted vars) cs → (v : Valuation) → Fits vars v → Satisfies v (word_differences cs) (place_differences cs) (unwritten_nodes cs) (written_nodes cs) → MakesPlainTrue v cs
  made_true w v f s =
      let a = given_all (IsTrueOfWords v) word_difference cs s.words_hold in
      let b = given_all (IsTrueOfPlaces v) place_difference cs s.places_hold in
      let c = given_all (IsUnwrittenNode v) unwritten_node cs s.are_unwritten in
      let e = given_all (IsWrittenNode v) written_node cs s.are_written in
      λ k d l. parts_true vars v f (get_or cs k d) (w k d l) (record { word = a k d l; place = b k d l; unwritten = c k d l; written = e k d l })

-- ---- sorts

module _ (vars : List VarInfo) where
  int_ends : (p : Polynomial) (equal : Bool) → IsIntPolynomial vars p → (d : Difference) → of_sum p.constant equal p.monomials ≡ Some d → IsIntNode vars d.from × IsIntNode vars d.to
  int_ends p equal h d e = ends_of_all p.constant equal (IsIntVariable vars) p.monomials d (shape_of p.constant equal p.monomials d e) h

  pub word_ends : (c : Conj) → IsWellSorted vars c → (d : Difference) → word_difference c ≡ Some d → IsIntNode vars d.from × IsIntNode vars d.to
  word_ends (Equal p) h d e = int_ends p true h d e
  word_ends (Unequal p) h d e = int_ends p false h d e
  word_ends (Less p q) h d e = absurd (none-some d e)
  word_ends (AtMost p q) h d e = absurd (none-some d e)
  word_ends (SamePlace a b) h d e = absurd (none-some d e)
  word_ends (OtherPlace a b) h d e = absurd (none-some d e)
  word_ends (Written x) h d e = absurd (none-some d e)
  word_ends (Unwritten x) h d e = absurd (none-some d e)
  word_ends (Quotient x p q) h d e = absurd (none-some d e)

  pointer_end : (a : Place) → IsPointerPlace vars a → IsPointerNode vars (node_of a)
  pointer_end place.Null h y e = absurd (omega arith)
  pointer_end (place.Var x) h y e = let f : x.0 ≡ y = omega arith in subst (IsPointerVariable vars) f h

  abbrev pub BarePointers : Difference → Type 0
  BarePointers d = IsPointerNode vars d.from × IsPointerNode vars d.to × (d.plus ≡ 0)

  same_ends : (a b : Place) (equal : Bool) → IsPointerPlace vars a → IsPointerPlace vars b → (d : Difference) → Some (same_or_other a b equal) ≡ Some d → BarePointers d
  same_ends a b equal h k d e = subst BarePointers (same_Some (same_or_other a b equal) d e) (pointer_end a h, pointer_end b k, refl)

  pub place_ends : (c : Conj) → IsWellSorted vars c → (d : Difference) → place_difference c ≡ Some d → BarePointers d
  place_ends (Equal p) h d e = absurd (none-some d e)
  place_ends (Unequal p) h d e = absurd (none-some d e)
  place_ends (Less p q) h d e = absurd (none-some d e)
  place_ends (AtMost p q) h d e = absurd (none-some d e)
  place_ends (SamePlace a b) h d e = same_ends a b true h.0 h.1 d e
  place_ends (OtherPlace a b) h d e = same_ends a b false h.0 h.1 d e
  place_ends (Written x) h d e = absurd (none-some d e)
  place_ends (Unwritten x) h d e = absurd (none-some d e)
  place_ends (Quotient x p q) h d e = absurd (none-some d e)

  abbrev pub IsVariableNode : ℕ → Type 0
  IsVariableNode u = (x : ℕ) × (u ≡ x + 1) × (x < length vars)

  pub unwritten_variable : (c : Conj) → IsWellSorted vars c → (u : ℕ) → unwritten_node c ≡ Some u → IsVariableNode u
  unwritten_variable (Equal p) h u e = absurd (none-some u e)
  unwritten_variable (Unequal p) h u e = absurd (none-some u e)
  unwritten_variable (Less p q) h u e = absurd (none-some u e)
  unwritten_variable (AtMost p q) h u e = absurd (none-some u e)
  unwritten_variable (SamePlace a b) h u e = absurd (none-some u e)
  unwritten_variable (OtherPlace a b) h u e = absurd (none-some u e)
  unwritten_variable (Written x) h u e = absurd (none-some u e)
  unwritten_variable (Unwritten x) h u e = (x.0, sym (same_Some (x.0 + 1) u e), h)
  unwritten_variable (Quotient x p q) h u e = absurd (none-some u e)

  pub written_inside : (c : Conj) → IsWellSorted vars c → (u : ℕ) → written_node c ≡ Some u → u < length vars + 1
  written_inside (Equal p) h u e = absurd (none-some u e)
  written_inside (Unequal p) h u e = absurd (none-some u e)
  written_inside (Less p q) h u e = absurd (none-some u e)
  written_inside (AtMost p q) h u e = absurd (none-some u e)
  written_inside (SamePlace a b) h u e = absurd (none-some u e)
  written_inside (OtherPlace a b) h u e = absurd (none-some u e)
  written_inside (Written x) h u e = let f = same_Some (x.0 + 1) u e in let l : x.0 < length vars = h in omega arith
  written_inside (Unwritten x) h u e = absurd (none-some u e)
  written_inside (Quotient x p q) h u e = absurd (none-some u e)

  pub sorted_parts : (cs : List Conj) → All (IsWellSorted vars) cs → AreSorted vars (word_differences cs) (place_differences cs) (unwritten_nodes cs) (written_nodes cs)
  sorted_parts cs h =
      let a : All (λ d. IsIntNode vars d.from × IsIntNode vars d.to) (word_differences cs) = all_given (λ d. IsIntNode vars d.from × IsIntNode vars d.to) word_difference cs (λ k d l. word_ends (get_or cs k d) (h k d l)) in
      let b : All BarePointers (place_differences cs) = all_given BarePointers place_difference cs (λ k d l. place_ends (get_or cs k d) (h k d l)) in
      record {
        word_from = λ k d l. (a k d l).0;
        word_to = λ k d l. (a k d l).1;
        place_from = λ k d l. (b k d l).0;
        place_to = λ k d l. (b k d l).1;
        bare = λ k d l. (b k d l).2;
        are_variables = all_given IsVariableNode unwritten_node cs (λ k d l. unwritten_variable (get_or cs k d) (h k d l));
        inside = all_given (λ u. u < length vars + 1) written_node cs (λ k d l. written_inside (get_or cs k d) (h k d l));
      }

  -- ---- small variables

  pub pointer_inside : (x : ℕ) → IsPointerVariable vars x → x < length vars
  pointer_inside x h = let i = info_of (λ (i : VarInfo). (t : TypeId) × (i.value ≡ Pointer t)) (slice_get vars x) h in slice_get_within vars x i.0 i.1

  small_sum : length vars ≤ 65536 → (p : Polynomial) → IsIntPolynomial vars p → All (λ (t : Term). All (λ x. x < 65536) t.vars) p.monomials
  small_sum few p h = all_parts (λ x. x < 65536) (λ (t : Term). t.vars) p.monomials
      (All-weaker (IsIntVariable vars) (λ x. x < 65536) (λ x k. let l = int_below vars x k in omega arith) (variables_of p) h)

  small_place : length vars ≤ 65536 → (a : Place) → IsPointerPlace vars a → node_of a ≤ 65536
  small_place few place.Null h = omega arith
  small_place few (place.Var x) h = let l = pointer_inside x.0 h in omega arith

  pub small_one : length vars ≤ 65536 → (c : Conj) → IsWellSorted vars c → HasSmallVariables c
  small_one few (Equal p) h = small_sum few p h
  small_one few (Unequal p) h = small_sum few p h
  small_one few (Less p q) h = tt
  small_one few (AtMost p q) h = tt
  small_one few (SamePlace a b) h = (small_place few a h.0, small_place few b h.1)
  small_one few (OtherPlace a b) h = (small_place few a h.0, small_place few b h.1)
  small_one few (Written x) h = let l : x.0 < length vars = h in omega arith
  small_one few (Unwritten x) h = let l : x.0 < length vars = h in omega arith
  small_one few (Quotient x p q) h = tt

  pub small_all : (cs : List Conj) → AreWellSorted vars cs → All HasSmallVariables cs
  small_all cs w = All-weaker (IsWellSorted vars) HasSmallVariables (small_one w.few_variables) cs w.sorted
