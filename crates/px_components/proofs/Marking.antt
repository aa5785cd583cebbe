-- Nodes are settled one after another.
use Rattle.std.proofs.Common.{◌≡◌, ◌≢◌, inl, inr, ℕ, ◌+◌, ◌<◌, ◌≤◌, List, length, get_or, set, refl, sym, ap, subst, ◌∙◌, arith, get_or-set_other, get_or-set_same, length-set}
use Rattle.std.proofs.lemmas.Bool.{cases_eq}
use Rattle.px_components.specs.Searches.{node_at, if_new, IsMarked}
use Rattle.px_components.specs.declared.search.Node.{Node}
use Rattle.px_components.specs.declared.search.Node.TheVariants.{New, Open, Settled}
use Rattle.px_components.proofs.NewNodes.{sum_set}

pub marked_none : (path : List ℕ) (start count : ℕ) (nodes : List Node) (numbers : List ℕ) → IsMarked path start start count nodes nodes numbers numbers
marked_none path start count nodes numbers = record {
  all_nodes = refl;
  all_numbers = refl;
  known = λ x d. d;
  new_same = λ weight. refl;
  settled = λ p l m. absurd (omega arith);
  kept = λ x d. (refl, refl);
}

no_weight : (n : Node) (w : ℕ) → n ≢ New → if_new w n ≡ 0
no_weight New w d = absurd (d refl)
no_weight (Open p) w d = refl
no_weight Settled w d = refl

pub marked_more : (path : List ℕ) (start i count : ℕ) (old new : List Node) (old_numbers new_numbers : List ℕ)
    → IsMarked path start i count old new old_numbers new_numbers → start ≤ i → length old_numbers ≡ length old
    → get_or path i 0 < length old → node_at old (get_or path i 0) ≢ New
    → IsMarked path start (i + 1) count old (set new (get_or path i 0) Settled) old_numbers (set new_numbers (get_or path i 0) count)
marked_more path start i count old new old_numbers new_numbers h s e l d = record {
  all_nodes = length-set new (get_or path i 0) Settled ∙ h.all_nodes;
  all_numbers = length-set new_numbers (get_or path i 0) count ∙ h.all_numbers;
  known = λ x f g. elim (cases_eq x (get_or path i 0)) [
    | inl k ↦ (let m = sym here ∙ ap (node_at (set new (get_or path i 0) Settled)) (sym k) ∙ g in cc)
    | inr k ↦ h.known x f (sym (other x k) ∙ g)
  ];
  new_same = λ weight. (
      let a = sum_set weight new (get_or path i 0) Settled inside in
      let b = no_weight (node_at new (get_or path i 0)) (weight (get_or path i 0)) (h.known (get_or path i 0) d) in
      let c = h.new_same weight in omega arith);
  settled = λ p m n. elim (cases_eq (get_or path p 0) (get_or path i 0)) [
    | inl k ↦ subst (λ x. (node_at (set new (get_or path i 0) Settled) x ≡ Settled) × (get_or (set new_numbers (get_or path i 0) count) x 0 ≡ count)) (sym k) (here, here_number)
    | inr k ↦ (
        let o = h.settled p m (elim (cases_eq p i) [ inl z ↦ absurd (k (ap (λ j. get_or path j 0) z)) | inr z ↦ omega arith ]) in
        (other (get_or path p 0) k ∙ o.0, other_number (get_or path p 0) k ∙ o.1))
  ];
  kept = λ x f. (
      let k : x ≢ get_or path i 0 = λ z. f i s (omega arith) (sym z) in
      let o = h.kept x (λ p m n. f p m (omega arith)) in
      (other x k ∙ o.0, other_number x k ∙ o.1));
}
  where
    inside : get_or path i 0 < length new
    inside = let a = h.all_nodes in omega arith

    here : node_at (set new (get_or path i 0) Settled) (get_or path i 0) ≡ Settled
    here = get_or-set_same new (get_or path i 0) Settled New inside

    here_number : get_or (set new_numbers (get_or path i 0) count) (get_or path i 0) 0 ≡ count
    here_number = get_or-set_same new_numbers (get_or path i 0) count 0 (let a = h.all_numbers in omega arith)

    other : (x : ℕ) → x ≢ get_or path i 0 → node_at (set new (get_or path i 0) Settled) x ≡ node_at new x
    other x k = get_or-set_other new (get_or path i 0) x Settled New k

    other_number : (x : ℕ) → x ≢ get_or path i 0 → get_or (set new_numbers (get_or path i 0) count) x 0 ≡ get_or new_numbers x 0
    other_number x k = get_or-set_other new_numbers (get_or path i 0) x count 0 k
