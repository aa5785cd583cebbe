-- The procedures by their numbers, and then by their ranks.
use Rattle.std.proofs.Common.{◌≡◌, ℕ, zero, suc, ◌+◌, ◌-◌, ◌<◌, ap, refl, List, [], ◌∷◌, ◌++◌, length, get_or, Bool, true, false, nat_eq, Some, sym, ◌∙◌, subst, inl, inr, arith, IsPermutation}
use Rattle.std.specs.Prelude.{slice_get, Any, Contains}
use Rattle.std.specs.List.{IsDistinct}
use Rattle.std.specs.List.Sorted.{IsNonDecreasingBy, IsSortedByKey, IsStableByKey}
use Rattle.std.specs.Ordering.{nat_cmp, is_lt}
use Rattle.std.specs.Fn.{ComputesKey, Called}
use denote.Ref.{Bor}
use denote.Param.Members.{Mut}
use Rattle.std.proofs.lemmas.Fn.{always_returns_same}
use Rattle.std.specs.declared.cmp.Ordering.TheVariants.{Greater}
use Rattle.std.specs.Cmp.{nat_cmp_is}
use Rattle.std.proofs.lemmas.Bool.{cases_eq, ne_eqb, eqb-false}
use Rattle.std.proofs.lemmas.List.Elements.{All-push, All-weaker, Contains-push, Contains-append_left}
use Rattle.std.proofs.lemmas.List.Quantifiers.{all_pairs_push}
use Rattle.std.proofs.lemmas.List.Sorted.{All-permutation, Contains-permutation, ties_still_rise}
use Rattle.std.proofs.lemmas.Map.Keys.{IsDistinct-from_apart, IsDistinct-IsPermutation, apart_from_distinct}
use Rattle.std.proofs.lemmas.Option.{slice_get_within}
use Rattle.px_findings.specs.declared.order.Turn.{Turn}
use Rattle.px_findings.specs.Orders.{IsTurn, AreTurns, AreRising, RiseInRanks}
use Rattle.px_terms.proofs.Tests.{same_either_way}

any_from : (P : Turn → Type 0) (xs : List Turn) (x : Turn) → Contains xs x → P x → Any P xs
any_from P xs x (k, l, e) h = (k, x, l, e, h)

not_both : (large : List Bool) (m n : ℕ) → m ≡ n → slice_get large m ≡ Some false → slice_get large n ≡ Some true → ⊥
not_both large m n e f t = apart (sym (subst (λ z. slice_get large z ≡ Some false) e f) ∙ t)
  where
    apart : Some false ≡ Some true → ⊥
    apart e = cc

module _ (graph : List (List ℕ)) (large : List Bool) (n : ℕ) (order : List Turn) (h : AreRising graph large n order) where
  pub rising_stays : slice_get large n ≡ Some true → AreRising graph large (n + 1) order
  rising_stays e = record {
    each = λ k d l. let q = h.each k d l in let m = q.0 in (omega arith, q.1);
    all = λ m l s. elim (cases_eq m n) [ inl f ↦ absurd (not_both large m n f s e) | inr d ↦ h.all m (omega arith) s ];
    in_order = h.in_order;
  }

  abbrev Below : Turn → Type 0
  Below t = (t.number < n + 1) × IsTurn graph large t

  pub rising_pushed : (t : Turn) (new : List Turn) → t.number ≡ n → IsTurn graph large t → new ≡ order ++ t ∷ [] → AreRising graph large (n + 1) new
  rising_pushed t new number turn pushed = subst (AreRising graph large (n + 1)) (sym pushed) (record {
    each = All-push Below order t (All-weaker (λ (t : Turn). (t.number < n) × IsTurn graph large t) Below (λ x q. let m = q.0 in (omega arith, q.1)) order h.each) (omega arith, turn);
    all = λ m l s. elim (cases_eq m n) [
      | inl f ↦ any_from (λ (t : Turn). t.number ≡ m) (order ++ t ∷ []) t (Contains-push order t) (number ∙ sym f)
      | inr d ↦ (let (k, x, i, e, q) = h.all m (omega arith) s in any_from (λ (t : Turn). t.number ≡ m) (order ++ t ∷ []) x (Contains-append_left order (t ∷ []) x (k, i, e)) q)
    ];
    in_order = all_pairs_push (λ (s t : Turn). s.number < t.number) order t h.in_order (λ k d l. let m = (h.each k d l).0 in omega arith);
  })

abbrev same_number : Turn → Turn → Bool
same_number s t = nat_eq s.number t.number

pub by_ranks : (graph : List (List ℕ)) (large : List Bool) (xs ys : List Turn) → AreRising graph large (length large) xs → IsPermutation xs ys → IsNonDecreasingBy (λ (t : Turn). t.rank) ys → AreTurns graph large ys
by_ranks graph large xs ys h moved sorted = record {
  each = All-permutation (IsTurn graph large) xs ys moved (All-weaker (λ (t : Turn). (t.number < length large) × IsTurn graph large t) (IsTurn graph large) (λ x q. q.1) xs h.each);
  all = λ m s. let (k, x, i, e, q) = h.all m (slice_get_within large m false s) s in any_from (λ (t : Turn). t.number ≡ m) ys x (Contains-permutation xs ys x moved (k, i, e)) q;
  in_order = λ i j d l m. record {
    rank = sorted i j d (omega arith) m;
    other = λ e. eqb-false (get_or ys i d).number (get_or ys j d).number (apart_from_distinct same_number ys i j d once l m) e;
  };
}
  where
    once : IsDistinct same_number ys
    once = IsDistinct-IsPermutation same_number (λ s t. same_either_way s.number t.number) xs ys moved
        (IsDistinct-from_apart same_number xs (λ i j d l m. let r = h.in_order i j d l m in ne_eqb (get_or xs i d).number (get_or xs j d).number (λ e. let n : ⊥ = omega (arith, r, e) in n)))

-- ---- of one rank

-- from the clause `stable` of `sort_by_key`, where each call gives the rank
pub stable_from_sort_by_key : {F : Type 0} {g : Mut F (Bor Turn × Unit {0}) ℕ} {f : F} (xs ys : List Turn) → ((key : Turn → ℕ) → ComputesKey g key f → IsStableByKey key nat_cmp xs ys) →
    ((a : Bor Turn × Unit {0}) (r : ℕ) (f' : F) → Called g f a r f' → (r ≡ a.0.now.rank) × (f' ≡ f)) → IsStableByKey (λ (t : Turn). t.rank) nat_cmp xs ys
stable_from_sort_by_key {g = g} {f = f} xs ys up h = up (λ (t : Turn). t.rank) (always_returns_same g (λ a r. r ≡ a.0.now.rank) f h)

-- neighbours of one rank rise, so all of one rank do
module _ (ys : List Turn) (sorted : IsNonDecreasingBy (λ (t : Turn). t.rank) ys)
    (next : (k : ℕ) (d : Turn) → k + 1 < length ys → (get_or ys k d).rank ≡ (get_or ys (k + 1) d).rank → (get_or ys k d).number < (get_or ys (k + 1) d).number) where
  next_at : (i j : ℕ) (d : Turn) → j ≡ i + 1 → j < length ys → (get_or ys i d).rank ≡ (get_or ys j d).rank → (get_or ys i d).number < (get_or ys j d).number
  next_at i j d e l = subst (λ m. (get_or ys i d).rank ≡ (get_or ys m d).rank → (get_or ys i d).number < (get_or ys m d).number) (sym e) (next i d (omega arith))

  through : (n i j : ℕ) (d : Turn) → j ≡ i + suc n → j < length ys → (get_or ys i d).rank ≡ (get_or ys j d).rank → (get_or ys i d).number < (get_or ys j d).number
  through zero i j d e l same = next_at i j d (omega arith) l same
  through (suc n) i j d e l same =
      let low = sorted i (i + suc n) d (omega arith) (omega arith) in
      let high = sorted (i + suc n) j d (omega arith) l in
      let first = through n i (i + suc n) d refl (omega arith) (omega arith) in
      let last = next_at (i + suc n) j d (omega arith) l (omega arith) in
      omega arith

  pub all_rise : RiseInRanks ys
  all_rise i j d l m same = through (j - suc i) i j d (omega arith) m same

pub rise_in_ranks : (graph : List (List ℕ)) (large : List Bool) (xs ys : List Turn) → AreRising graph large (length large) xs → IsPermutation xs ys → IsNonDecreasingBy (λ (t : Turn). t.rank) ys →
    IsStableByKey (λ (t : Turn). t.rank) nat_cmp xs ys → RiseInRanks ys
rise_in_ranks graph large xs ys h moved sorted stable = all_rise ys sorted (λ k d l same.
    let rising = ties_still_rise (λ (t : Turn). t.number) (λ (t : Turn). t.rank) xs ys by_number stable k d l same in
    let differ = ((by_ranks graph large xs ys h moved sorted).in_order k (k + 1) d (omega arith) l).other in
    omega arith)
  where
    by_number : IsSortedByKey (λ (t : Turn). t.number) nat_cmp xs
    by_number k d low l = ap is_lt (sym (nat_cmp_is (get_or xs (k + 1) d).number (get_or xs k d).number Greater (h.in_order k (k + 1) d (omega arith) l)))
