-- Comparisons are followed from marked variables.
use Rattle.std.proofs.Common.{◌≡◌, ◌⊎◌, inl, inr, ℕ, ◌+◌, ◌-◌, ◌<◌, ◌≤◌, List, length, map, refl, sym, ap, subst, ◌∙◌, arith}
use Rattle.std.specs.Prelude.{ℤ, ◌≤ℤ◌, All, false, slice_index}
use Rattle.std.proofs.lemmas.Bool.{cases_eq, cases_lt}
use Rattle.std.proofs.lemmas.Int.{ints}
use Rattle.std.proofs.lemmas.List.{get_or-map, length-map}
use Rattle.px_chains.specs.Ends.{IsEndOfKey}
use Rattle.px_order.specs.declared.comparisons.Comparison.{Comparison}
use Rattle.px_order.specs.declared.search.Mark.{Mark}
use Rattle.px_order.specs.declared.search.Mark.TheVariants.{AtLeast}
use Rattle.px_order.specs.Comparisons.{IsOrdered, Holds, IsBelow, comparison_at, first_compared}
use Rattle.px_order.specs.Searches.{mark_at, strength, carried, IsAsMarked, AreWarranted, IsWaiting, AreReached, IsUnmarked, IsHandled, AreHandled, AreHandledBut, Raises, Learns}
use Rattle.px_order.proofs.Raising.{strength_none, as_carried, waiting_earlier, IsRaised, raised, still_handled, still_warranted}

-- of the comparisons that have x first, those from `end` on are followed
pub record FollowsFrom (cs : List Comparison) (keys : List ℕ) (x : ℕ) (old now : List Mark) (before reached : List ℕ) (end : ℕ) : Type 0 where
  pub within : end ≤ length cs
  pub here : 0 < end → slice_index keys (end - 1) ≡ x
  pub size : length now ≡ length old
  pub listed : AreReached now reached
  pub learns : Learns cs old now before reached
  pub same : (mark_at now x ≡ mark_at old x) ⊎ IsWaiting reached (length before) x
  pub handled : (next : ℕ) → next ≤ length before → AreHandledBut cs old before next x (length cs) → AreHandledBut cs now reached next x end

-- comparisons are followed from the variables that stand before `next`
pub record FollowsUpTo (cs : List Comparison) (old now : List Mark) (before reached : List ℕ) (next : ℕ) : Type 0 where
  pub within : next ≤ length reached
  pub listed : AreReached now reached
  pub learns : Learns cs old now before reached
  pub handled : AreHandled cs now reached next

module _ (cs : List Comparison) where
  learns_nothing : (marks : List Mark) (reached : List ℕ) → Learns cs marks marks reached reached
  learns_nothing marks reached = record { warranted = λ c h. h; grows = λ x. omega arith; less = omega arith; longer = omega arith }

  pub learns_both : (a b c : List Mark) (r s t : List ℕ) → Learns cs a b r s → Learns cs b c s t → Learns cs a c r t
  learns_both a b c r s t f g = record {
    warranted = λ d h. g.warranted d (f.warranted d h);
    grows = λ x. let p = f.grows x in let q = g.grows x in omega arith;
    less = let p = f.less in let q = g.less in omega arith;
    longer = let p = f.longer in let q = g.longer in omega arith;
  }

  -- ---- those with one first variable

  module _ (keys : List ℕ) (chained : keys ≡ map first_compared cs) (x : ℕ) where
    first_is : (k : ℕ) → k < length cs → slice_index keys k ≡ (comparison_at cs k).first
    first_is k l = ap (λ ks. slice_index ks k) chained ∙ get_or-map first_compared cs k (record { first = 0; second = 0; strict = false }) 0 l

    pub follows_begin : (marks : List Mark) (reached : List ℕ) (end : ℕ) → AreReached marks reached → IsEndOfKey keys x (length keys) end
        → FollowsFrom cs keys x marks marks reached reached end
    follows_begin marks reached end listed e =
        let size : length keys ≡ length cs = ap length chained ∙ length-map cs first_compared in
        let w = e.within in
        record {
          within = omega arith;
          here = e.here;
          size = refl;
          listed = listed;
          learns = learns_nothing marks reached;
          same = inl refl;
          handled = λ next l h k m. elim (h k m) [
            | inl d ↦ inl d
            | inr (f, n) ↦ inr (f, elim (cases_lt k end) [ inl p ↦ p | inr p ↦ absurd (e.none_after k p (omega arith) (first_is k m ∙ f)) ])
          ];
        }

    module _ (old now then : List Mark) (before reached longer : List ℕ) (end earlier : ℕ) (below : All (IsBelow (length old)) cs) (some : 0 < end)
        (h : FollowsFrom cs keys x old now before reached end) where
      abbrev place : ℕ
      place = end - 1

      abbrev comparison : Comparison
      comparison = comparison_at cs place

      place_inside : place < length cs
      place_inside = let w = h.within in omega arith

      first_here : comparison.first ≡ x
      first_here = sym (first_is place place_inside) ∙ h.here some

      second_inside : comparison.second < length now
      second_inside = let b = below place (record { first = 0; second = 0; strict = false }) place_inside in let s = h.size in let t = b.1 in omega arith

      module _ (r : IsRaised comparison.second (carried (mark_at old x) comparison.strict) now then reached longer) where
        -- the mark is warranted where the old ones were
        own_warranted : (c : Comparison) → AreWarranted cs c old → (v : ℕ → ℤ) (t : ℤ) → All (Holds v) cs → IsOrdered c.strict t (v c.second)
            → IsAsMarked (carried (mark_at old x) comparison.strict) t (v comparison.second)
        own_warranted c w v t all o = as_carried (mark_at old x) comparison.strict t (v x) (v comparison.second) (w.marked v t all o x)
            (subst (λ y. IsOrdered comparison.strict (v y) (v comparison.second)) first_here (all place (record { first = 0; second = 0; strict = false }) place_inside))

        learnt : Learns cs old then before longer
        learnt = record {
          warranted = λ c w. still_warranted r cs c (own_warranted c w) (h.learns.warranted c w);
          grows = λ y. let p = h.learns.grows y in let q = r.grows y in omega arith;
          less = let p = h.learns.less in let q = r.less in omega arith;
          longer = let p = h.learns.longer in let q = r.longer in omega arith;
        }

        still_same : (mark_at then x ≡ mark_at old x) ⊎ IsWaiting longer (length before) x
        still_same = elim h.same [
          | inl e ↦ elim (r.waits (length before) x h.learns.longer) [
            | inl f ↦ inl (f ∙ e)
            | inr w ↦ inr w
          ]
          | inr w ↦ inr (r.still_waits (length before) x w)
        ]

        -- the comparison itself is handled
        handled_here : (next : ℕ) → next ≤ length before → IsHandled then longer next comparison
        handled_here next l = elim still_same [
          | inl e ↦ inl (subst (λ y. strength (carried (mark_at then y) comparison.strict) ≤ strength (mark_at then comparison.second)) (sym first_here)
              (subst (λ m. strength (carried m comparison.strict) ≤ strength (mark_at then comparison.second)) (sym e) r.own))
          | inr w ↦ inr (subst (IsWaiting longer next) (sym first_here) (waiting_earlier longer x next (length before) l w))
        ]

        handled_more : IsEndOfKey keys x place earlier → (next : ℕ) → next ≤ length before → AreHandledBut cs now reached next x end → AreHandledBut cs then longer next x earlier
        handled_more e next l but k m = let g = h.learns.longer in elim (but k m) [
          | inl d ↦ inl (still_handled r next (comparison_at cs k) (omega arith) d)
          | inr (f, n) ↦ elim (cases_eq k place) [
            | inl p ↦ inl (subst (λ i. IsHandled then longer next (comparison_at cs i)) (sym p) (handled_here next l))
            | inr p ↦ inr (
              f,
              elim (cases_lt k earlier) [
                | inl q ↦ q
                | inr q ↦ absurd (e.none_after k q (omega arith) (first_is k m ∙ f))
              ],
            )
          ]
        ]

        follows_on : IsEndOfKey keys x place earlier → FollowsFrom cs keys x old then before longer earlier
        follows_on e = let w = e.within in let v = h.within in record {
          within = omega arith;
          here = e.here;
          size = r.size ∙ h.size;
          listed = r.reached h.listed;
          learns = learnt;
          same = still_same;
          handled = λ next l but. handled_more e next l (h.handled next l but);
        }

      pub follows_more : Raises comparison.second (carried (mark_at old x) comparison.strict) now then reached longer → IsEndOfKey keys x place earlier
          → FollowsFrom cs keys x old then before longer earlier
      follows_more r = follows_on (raised comparison.second (carried (mark_at old x) comparison.strict) now then reached longer second_inside r)

    -- all are followed
    pub follows_end : (old now : List Mark) (before reached : List ℕ) (end : ℕ) → end ≤ 0 → FollowsFrom cs keys x old now before reached end
        → (next : ℕ) → next ≤ length before → AreHandledBut cs old before next x (length cs) → AreHandled cs now reached next
    follows_end old now before reached end none h next l but k m = elim (h.handled next l but k m) [
      | inl d ↦ d
      | inr (f, n) ↦ absurd (omega arith)
    ]

  -- ---- all marked variables

  -- those that have the next variable first are left
  pub but_next : (marks : List Mark) (reached : List ℕ) (next x : ℕ) → slice_index reached next ≡ x → AreHandled cs marks reached next → AreHandledBut cs marks reached (next + 1) x (length cs)
  but_next marks reached next x e h k l = elim (h k l) [
    | inl f ↦ inl (inl f)
    | inr (i, a, b, f) ↦ elim (cases_eq i next) [
      | inl g ↦ inr (sym f ∙ ap (slice_index reached) g ∙ e, l)
      | inr g ↦ inl (inr (i, omega arith, b, f))
    ]
  ]

-- ---- the beginning

module _ (cs : List Comparison) (new : Comparison) (old now : List Mark) (before reached : List ℕ) (inside : new.second < length old) (unmarked : IsUnmarked old before)
    (r : Raises new.second (carried AtLeast new.strict) old now before reached) where
  least : (n : ℤ) → n ≤ℤ n
  least n = omega (arith, ints)

  all_new : AreWarranted cs new old
  all_new = record { marked = λ v t all o x. subst (λ m. IsAsMarked m t (v x)) (sym (strength_none (mark_at old x) (unmarked.clean x))) tt }

  pub warranted_begun : AreWarranted cs new now
  warranted_begun = still_warranted (raised new.second (carried AtLeast new.strict) old now before reached inside r) cs new
      (λ v t all o. as_carried AtLeast new.strict t t (v new.second) (least t) o) all_new

  pub strength_begun : strength (carried AtLeast new.strict) ≤ strength (mark_at now new.second)
  strength_begun = (raised new.second (carried AtLeast new.strict) old now before reached inside r).own
