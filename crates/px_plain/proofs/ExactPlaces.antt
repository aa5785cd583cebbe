-- The exact numbers over a forest: null and the least variables that the equalities of places tie.
use Rattle.std.proofs.Common.{◌≡◌, inl, inr, ℕ, ◌+◌, ◌-◌, ◌%◌, ◌^◌, ◌<◌, ◌≤◌, List, length, get_or, refl, sym, ap, subst, ◌∙◌, arith}
use Rattle.std.specs.Prelude.{Bool, true, false, Some, All, Contains, cond, nat_eq, slice_get}
use Rattle.std.proofs.lemmas.Bool.{cases_eq, eq-eqb, ne_eqb}
use Rattle.std.proofs.lemmas.Option.{slice_get_within, none-some, same_Some}
use Rattle.px_terms.specs.Valuations.{valuation_of, IsUnwritten}
use Rattle.px_terms.specs.declared.types.ValueType.{ValueType}
use Rattle.px_terms.specs.declared.types.ValueType.TheVariants.{Int, Pointer}
use Rattle.px_terms.specs.declared.types.Value.{Value}
use Rattle.px_terms.specs.declared.types.Value.TheVariants as value
use Rattle.px_terms.specs.declared.variables.VarInfo.{VarInfo}
use Rattle.px_terms.specs.declared.variables.Sort.TheVariants.{Given}
use Rattle.px_terms.specs.declared.conjuncts.Place.{Place}
use Rattle.px_terms.specs.declared.conjuncts.Place.TheVariants as place
use Rattle.px_terms.specs.declared.conjuncts.Conj.{Conj}
use Rattle.px_terms.specs.declared.conjuncts.Conj.TheVariants.{Equal, Unequal, Less, AtMost, SamePlace, OtherPlace, Written, Unwritten, Quotient}
use Rattle.px_plain.specs.declared.nodes.Node.{Node}
use Rattle.px_plain.specs.declared.nodes.Difference.{Difference}
use Rattle.px_plain.specs.Forest.{node_at, parent_at}
use Rattle.px_plain.specs.Differences.{IfEqual, AllEqual, IsForestOf}
use Rattle.px_plain.specs.Models.{value_of, place_of_number, AreLeastValues}
use Rattle.px_plain.specs.Places.{mark_at, IsMixed}
use Rattle.px_plain.specs.Readings.{place_difference, place_differences, unwritten_node, unwritten_nodes, node_of, same_or_other}
use Rattle.px_plain.specs.Ties.{number_at, KeepsPlace, KeepsPlaces, IsSamePlace, IsTiedToNull, HasTwoTypes, IsNullPlace, SaysUnwritten, IsSaidUnwritten}
use Rattle.px_plain.proofs.Options.{all_given, given_by}
use Rattle.px_plain.proofs.Placing.{info_at}
use Rattle.px_plain.proofs.Representatives.{at_nodes, node_after}
use Rattle.px_terms.proofs.Tests.{never_both}

module _ (w : ℕ → ℕ) (g : ℕ → ℕ) where
  abbrev image : ℕ → ℕ
  image v = g (at_nodes w v)

  node_number : (a : Place) → at_nodes w (node_of a) ≡ number_at w a
  node_number place.Null = refl
  node_number (place.Var x) = node_after w x.0

  image_one : (c : Conj) → KeepsPlace w c → (d : Difference) → place_difference c ≡ Some d → IfEqual image d
  image_one (Equal p) h d e = absurd (none-some d e)
  image_one (Unequal p) h d e = absurd (none-some d e)
  image_one (Less p q) h d e = absurd (none-some d e)
  image_one (AtMost p q) h d e = absurd (none-some d e)
  image_one (SamePlace a b) h d e = subst (IfEqual image) (same_Some (same_or_other a b true) d e)
      (λ q. ap (λ n. n % 2 ^ 32) (ap g (node_number b ∙ sym h ∙ sym (node_number a)) ∙ none (g (at_nodes w (node_of a)))))
    where
      none : (n : ℕ) → n ≡ n + 0
      none n = omega arith
  image_one (OtherPlace a b) h d e = subst (IfEqual image) (same_Some (same_or_other a b false) d e) (λ q. absurd (never_both false q refl))
  image_one (Written x) h d e = absurd (none-some d e)
  image_one (Unwritten x) h d e = absurd (none-some d e)
  image_one (Quotient x p q) h d e = absurd (none-some d e)

  pub image_kept : (cs : List Conj) → KeepsPlaces w cs → AllEqual image (place_differences cs)
  image_kept cs h =
      let all : All (IfEqual image) (place_differences cs) = all_given (IfEqual image) place_difference cs (λ k d b. image_one (get_or cs k d) (h k d b)) in
      λ i l. all i (record { from = 0; to = 0; plus = 0; equal = false }) l

module _ (cs : List Conj) (t : List Node) (f : IsForestOf (place_differences cs) t) where
  -- a node has the number of its root
  same_node : (w : ℕ → ℕ) → KeepsPlaces w cs → (v : ℕ) → v < length t → at_nodes w v ≡ at_nodes w (parent_at t v)
  same_node w k v l =
      let zeros = (f.there (image w (λ n. 0)) (image_kept w (λ n. 0) cs k)).each v l in
      let is = λ (n : ℕ). cond (nat_eq n (at_nodes w v)) 1 0 in
      let ones = (f.there (image w is) (image_kept w is cs k)).each v l in
      let here : is (at_nodes w v) ≡ 1 = ap (λ b. cond b 1 0) (eq-eqb (at_nodes w v) (at_nodes w v) refl) in
      elim (cases_eq (at_nodes w (parent_at t v)) (at_nodes w v)) [
        | inl e ↦ sym e
        | inr n ↦ let there : is (at_nodes w (parent_at t v)) ≡ 0 = ap (λ b. cond b 1 0) (ne_eqb (at_nodes w (parent_at t v)) (at_nodes w v) n) in
            absurd (differ (is (at_nodes w v)) (is (at_nodes w (parent_at t v))) (node_at t v).offset zeros here there ones)
      ]
    where
      differ : (a b o : ℕ) → 0 % 2 ^ 32 ≡ (0 + o) % 2 ^ 32 → a ≡ 1 → b ≡ 0 → a % 2 ^ 32 ≡ (b + o) % 2 ^ 32 → ⊥
      differ a b o z p q h = omega arith

  number_of_root : (w : ℕ → ℕ) → KeepsPlaces w cs → (x : ℕ) → x + 1 < length t → w x ≡ at_nodes w (parent_at t (x + 1))
  number_of_root w k x l = sym (node_after w x) ∙ same_node w k (x + 1) l

  pub tied_to_null : (x : ℕ) → x + 1 < length t → parent_at t (x + 1) ≡ 0 → IsTiedToNull cs x
  tied_to_null x l e w k = number_of_root w k x l ∙ ap (at_nodes w) e

  pub same_root : (x y : ℕ) → x + 1 < length t → y + 1 < length t → parent_at t (x + 1) ≡ parent_at t (y + 1) → IsSamePlace cs x y
  same_root x y l n e w k = number_of_root w k x l ∙ ap (at_nodes w) e ∙ sym (number_of_root w k y n)

  pub same_as_root : (x b : ℕ) → x + 1 < length t → parent_at t (x + 1) ≡ b + 1 → IsSamePlace cs x b
  same_as_root x b l e w k = number_of_root w k x l ∙ ap (at_nodes w) e ∙ node_after w b

  pub two_types : (vars : List VarInfo) (x : ℕ) → length t ≡ length vars + 1 → x + 1 < length t → IsMixed vars t (parent_at t (x + 1)) → HasTwoTypes vars cs x
  two_types vars x n l m = record {
    first = m.below;
    second = m.root;
    one = m.first;
    other = m.second;
    is_first = m.is_first;
    is_second = m.is_second;
    same_first = let b = slice_get_within vars m.below m.first m.is_first in same_root x m.below l (omega arith) (sym m.parent);
    same_second = same_as_root x m.root l m.node;
    types = m.types;
  }

-- ---- the values

null_number : (b : Bool) (t : ValueType) (w p : ℕ) → value_of b t w p ≡ value.Null → p ≡ 0
null_number true t w p e = absurd (cc)
null_number false Int w p e = absurd (cc)
null_number false (Pointer i) w p e = elim (cases_eq p 0) [
  | inl z ↦ z
  | inr z ↦ let f : place_of_number p ≡ value.Block (p - 1) = rw (ne_eqb p 0 z) in absurd (two (p - 1) (sym f ∙ e))
]
  where
    two : (b : ℕ) → value.Block b ≡ value.Null → ⊥
    two b e = cc

block_number : (b : Bool) (t : ValueType) (w p n : ℕ) → value_of b t w p ≡ value.Block n → p ≡ n + 1
block_number true t w p n e = absurd (cc)
block_number false Int w p n e = absurd (cc)
block_number false (Pointer i) w p n e = elim (cases_eq p 0) [
  | inl z ↦ let f : place_of_number p ≡ value.Null = rw (eq-eqb p 0 z) in absurd (two n (sym f ∙ e))
  | inr z ↦ let f : place_of_number p ≡ value.Block (p - 1) = rw (ne_eqb p 0 z) in let g = one (p - 1) n (sym f ∙ e) in omega arith
]
  where
    two : (b : ℕ) → value.Null ≡ value.Block b → ⊥
    two b e = cc

    one : (a b : ℕ) → value.Block a ≡ value.Block b → a ≡ b
    one a b e = cc

unwritten_mark : (b : Bool) (t : ValueType) (w p : ℕ) → IsUnwritten (value_of b t w p) → b ≡ true
unwritten_mark true t w p h = refl
unwritten_mark false Int w p h = absurd h
unwritten_mark false (Pointer i) w p h = elim (cases_eq p 0) [
  | inl z ↦ let f : place_of_number p ≡ value.Null = rw (eq-eqb p 0 z) in absurd (subst IsUnwritten f h)
  | inr z ↦ let f : place_of_number p ≡ value.Block (p - 1) = rw (ne_eqb p 0 z) in absurd (subst IsUnwritten f h)
]

says : (c : Conj) (x : ℕ) → unwritten_node c ≡ Some (x + 1) → SaysUnwritten x c
says (Equal p) x e = absurd (none-some (x + 1) e)
says (Unequal p) x e = absurd (none-some (x + 1) e)
says (Less p q) x e = absurd (none-some (x + 1) e)
says (AtMost p q) x e = absurd (none-some (x + 1) e)
says (SamePlace a b) x e = absurd (none-some (x + 1) e)
says (OtherPlace a b) x e = absurd (none-some (x + 1) e)
says (Written y) x e = absurd (none-some (x + 1) e)
says (Unwritten y) x e = let f = same_Some (y.0 + 1) (x + 1) e in omega arith
says (Quotient y p q) x e = absurd (none-some (x + 1) e)

said : (cs : List Conj) (x : ℕ) → Contains (unwritten_nodes cs) (x + 1) → IsSaidUnwritten cs x
said cs x (k, l, e) =
    let by = given_by unwritten_node cs k (x + 1) l in
    (by.0, by.1, by.2, by.3, says by.1 x (by.4 ∙ ap Some e))

module _ (vars : List VarInfo) (cs : List Conj) (vs : List Value) (ws : List Difference) (a : AreLeastValues vars ws (place_differences cs) (unwritten_nodes cs) vs) where
  abbrev t : List Node
  t = a.are_exact.table

  f : IsForestOf (place_differences cs) t
  f = a.are_exact.is_forest

  info : (x : ℕ) → x < length vars → slice_get vars x ≡ Some (info_at vars x)
  info x l = Rattle.std.proofs.lemmas.Option.slice_get-get_or vars x (record { sort = Given; value = Int }) l

  as_value : (x : ℕ) → x < length vars → valuation_of vs x ≡ value_of (mark_at a.marks (x + 1)) (info_at vars x).value (get_or a.numbers (x + 1) 0) (get_or a.blocks (x + 1) 0)
  as_value x l = a.values.each x (info_at vars x) (info x l)

  pub null_place : (x : ℕ) → x < length vars → valuation_of vs x ≡ value.Null → IsNullPlace vars cs x
  null_place x l e =
      let n = a.are_exact.size in
      let z = null_number (mark_at a.marks (x + 1)) (info_at vars x).value (get_or a.numbers (x + 1) 0) (get_or a.blocks (x + 1) 0) (sym (as_value x l) ∙ e) in
      elim (a.are_exact.exact.null (x + 1) (omega arith) z) [
        | inl r ↦ inl (tied_to_null cs t f x (omega arith) r)
        | inr r ↦ inr (two_types cs t f vars x n (omega arith) r)
      ]

  number_here : (x b : ℕ) → x < length vars → valuation_of vs x ≡ value.Block b → get_or a.blocks (x + 1) 0 ≡ b + 1
  number_here x b l e = block_number (mark_at a.marks (x + 1)) (info_at vars x).value (get_or a.numbers (x + 1) 0) (get_or a.blocks (x + 1) 0) b (sym (as_value x l) ∙ e)

  pub least_block : (x b : ℕ) → x < length vars → valuation_of vs x ≡ value.Block b → b ≤ x
  least_block x b l e = let z = number_here x b l e in let h = a.below (x + 1) (omega arith) in omega arith

  pub same_block : (x b : ℕ) → x < length vars → valuation_of vs x ≡ value.Block b → IsSamePlace cs x b
  same_block x b l e =
      let n = a.are_exact.size in
      let z = number_here x b l e in
      let r = a.are_exact.exact.root (x + 1) (omega arith) (λ q. absurd (omega arith)) in
      same_as_root cs t f x b (omega arith) (sym r ∙ z)

  pub only_said : (x : ℕ) → x < length vars → IsUnwritten (valuation_of vs x) → IsSaidUnwritten cs x
  only_said x l h =
      let e = unwritten_mark (mark_at a.marks (x + 1)) (info_at vars x).value (get_or a.numbers (x + 1) 0) (get_or a.blocks (x + 1) 0) (subst IsUnwritten (as_value x l) h) in
      said cs x (a.marked.asked (x + 1) e)
