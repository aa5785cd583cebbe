-- One node after another gets its value.
use Rattle.std.proofs.Common.{◌≡◌, inl, inr, ℕ, zero, suc, ◌+◌, ◌%◌, ◌^◌, ◌<◌, ◌≤◌, ◌++◌, List, [], ◌∷◌, length, get_or, refl, sym, ap, subst, ◌∙◌, arith, below_more, length-append}
use Rattle.std.specs.Prelude.{Contains}
use Rattle.std.proofs.lemmas.Bool.{cases_lt}
use Rattle.std.proofs.lemmas.List.{get_or_push, get_or_default, length_push}
use Rattle.std.proofs.Math.ListN.{get_or-append}
use Rattle.px_plain.specs.declared.nodes.Node.{Node}
use Rattle.px_plain.specs.declared.nodes.Exclusion.{Exclusion}
use Rattle.px_plain.specs.Forest.{node_at, parent_at, IsAbove, IsForest}
use Rattle.px_plain.specs.Exclusions.{exclusion_at, taken_by, InOrder, Assigned, IsTaken, AreLeast}

nothing_above : (y o : ℕ) → o ≡ 0 → y % 2 ^ 32 ≡ (y + o) % 2 ^ 32
nothing_above y o e = omega arith

-- the first node is a root, and its value may be any
pub first_assigned : (t : List Node) (es : List Exclusion) (x : ℕ) → IsForest t → InOrder t es → 0 < length t → Assigned t es 0 (x ∷ [])
first_assigned t es x f o some = record {
  above = λ v h. let e : v ≡ 0 = omega arith in
      let low = f.lower 0 some in
      let root : parent_at t 0 ≡ 0 = omega arith in
      subst (λ k. IsAbove (λ i. get_or (x ∷ []) i 0) k (parent_at t k) (node_at t k).offset) (sym e)
      (ap (λ k. get_or (x ∷ []) k 0 % 2 ^ 32) (sym root) ∙ nothing_above (get_or (x ∷ []) (parent_at t 0) 0) (node_at t 0).offset (f.bare 0 some root));
  apart = λ j h. absurd (omega arith);
  passed = λ j h. absurd (omega arith);
  coming = λ j l h. let low = (o.roots j h).lower in omega arith;
}

module _ (t : List Node) (es : List Exclusion) (from next : ℕ) (vs taken : List ℕ) (x : ℕ) where
  kept : (v : ℕ) → v < length vs → get_or (vs ++ x ∷ []) v 0 ≡ get_or vs v 0
  kept v h = get_or-append vs (x ∷ []) 0 v h

  last : get_or (vs ++ x ∷ []) (length vs) 0 ≡ x
  last = get_or_push vs x 0 (length vs) refl

  taken_kept : (j : ℕ) → (exclusion_at es j).low < length vs → taken_by (vs ++ x ∷ []) (exclusion_at es j) ≡ taken_by vs (exclusion_at es j)
  taken_kept j h = ap (λ z. (z + (exclusion_at es j).above) % 2 ^ 32) (kept (exclusion_at es j).low h)

  -- the next node is a root, and none of its exclusions takes its value
  pub root_assigned : IsForest t → InOrder t es → length vs < length t → next ≤ length es → parent_at t (length vs) ≡ length vs → Assigned t es from vs →
      ((j : ℕ) → from ≤ j → j < next → (exclusion_at es j).high ≡ length vs) →
      ((j : ℕ) → from ≤ j → j < next → Contains taken (taken_by vs (exclusion_at es j))) →
      ((j : ℕ) → next ≤ j → j < length es → length vs < (exclusion_at es j).high) →
      (¬ Contains taken x) → Assigned t es next (vs ++ x ∷ [])
  root_assigned f o inside within root a at all behind out = record {
    above = subst (λ z. (v : ℕ) → v < z → IsAbove (λ k. get_or (vs ++ x ∷ []) k 0) v (parent_at t v) (node_at t v).offset) (sym (length_push vs x))
        (below_more (λ v. IsAbove (λ k. get_or (vs ++ x ∷ []) k 0) v (parent_at t v) (node_at t v).offset) (length vs)
        (λ v h.
        let low = f.lower v (omega arith) in
        let here = kept v h in
        let there = kept (parent_at t v) (omega arith) in
        let tie = a.above v h in
        ap (λ z. z % 2 ^ 32) here ∙ tie ∙ ap (λ z. (z + (node_at t v).offset) % 2 ^ 32) (sym there))
        (let bare = f.bare (length vs) inside root in
        ap (λ k. get_or (vs ++ x ∷ []) k 0 % 2 ^ 32) (sym root) ∙ nothing_above (get_or (vs ++ x ∷ []) (parent_at t (length vs)) 0) (node_at t (length vs)).offset bare));
    apart = λ j h. elim (cases_lt j from) [
      | inl w ↦
          let high = a.passed j w in
          let low = (o.roots j (omega arith)).lower in
          λ e. a.apart j w (sym (kept (exclusion_at es j).high high) ∙ e ∙ taken_kept j (omega arith))
      | inr w ↦
          let high = at j w h in
          let low = (o.roots j (omega arith)).lower in
          λ e. out (subst (Contains taken) (sym (sym (ap (λ k. get_or (vs ++ x ∷ []) k 0) high ∙ last) ∙ e ∙ taken_kept j (omega arith))) (all j w h))
    ];
    passed = λ j h. elim (cases_lt j from) [
      | inl w ↦ let p = a.passed j w in let n = length_push vs x in omega arith
      | inr w ↦ let p = at j w h in let n = length_push vs x in omega arith
    ];
    coming = λ j h w. let p = behind j h w in let n = length_push vs x in omega arith;
  }

-- ---- least numbers

none_below : (v k : ℕ) → k < get_or (0 ∷ []) v 0 → ⊥
none_below zero k b = absurd (omega arith)
none_below (suc v) k b = absurd (omega arith)

pub first_least : (t : List Node) (es : List Exclusion) → AreLeast t es (0 ∷ [])
first_least t es = record { each = λ v k l r b. absurd (none_below v k b) }

module _ (t : List Node) (es : List Exclusion) (vs : List ℕ) (x : ℕ) (o : InOrder t es) (a : AreLeast t es vs) where
  taken_more : (v k : ℕ) → v ≤ length vs → IsTaken es vs v k → IsTaken es (vs ++ x ∷ []) v k
  taken_more v k l h = record {
    at = h.at;
    inside = h.inside;
    high = h.high;
    taken = (let low = (o.roots h.at h.inside).lower in
        let e = h.high in
        ap (λ z. (z + (exclusion_at es h.at).above) % 2 ^ 32) (get_or-append vs (x ∷ []) 0 (exclusion_at es h.at).low (omega arith))) ∙ h.taken;
  }

  -- one more node, which is no root, or has the least number that is left
  pub least_more : ((k : ℕ) → parent_at t (length vs) ≡ length vs → k < x → IsTaken es vs (length vs) k) → AreLeast t es (vs ++ x ∷ [])
  least_more h = record {
    each = λ v k l r b.
        let n = length-append vs (x ∷ []) in
        elim (cases_lt v (length vs)) [
          | inl w ↦ taken_more v k (omega arith) (a.each v k w r (subst (λ z. k < z) (get_or-append vs (x ∷ []) 0 v w) b))
          | inr w ↦ let e : length vs ≡ v = omega arith in
              taken_more v k (omega arith) (subst (λ z. IsTaken es vs z k) e (h k (subst (λ z. parent_at t z ≡ z) (sym e) r) (subst (λ z. k < z) (get_or_push vs x 0 v e) b)))
        ];
  }

-- what is taken from a root, by the place among what was gathered
pub taken_at : (es : List Exclusion) (vs taken : List ℕ) (from next v k : ℕ) → length taken + from ≡ next → next ≤ length es →
    ((j : ℕ) → from ≤ j → j < next → (exclusion_at es j).high ≡ v) →
    ((i : ℕ) → i < length taken → get_or taken i 0 ≡ taken_by vs (exclusion_at es (from + i))) → Contains taken k → IsTaken es vs v k
taken_at es vs taken from next v k count within high order (i, l, e) = record {
  at = from + i;
  inside = omega arith;
  high = high (from + i) (omega arith) (omega arith);
  taken = sym (order i l) ∙ get_or_default taken i 0 k l ∙ e;
}
