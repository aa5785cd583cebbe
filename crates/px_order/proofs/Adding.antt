-- Comparisons are added one after another.
use Rattle.std.proofs.Common.{◌≡◌, ℕ, ◌+◌, ◌<◌, List, [], ◌∷◌, ◌++◌, length, take, drop, sym, ap, subst, ◌∙◌, append_assoc}
use Rattle.std.specs.Prelude.{All, false}
use Rattle.std.proofs.Math.Seq.{take-append_seam}
use Rattle.std.proofs.lemmas.List.{take_more, take-append-drop}
use Rattle.std.proofs.lemmas.List.Elements.{All-nil, All-take}
use Rattle.px_terms.specs.declared.conjuncts.Conj.{Conj}
use Rattle.px_order.specs.declared.comparisons.Comparison.{Comparison}
use Rattle.px_order.specs.Comparisons.{Holds, HaveNoSolution, Adds, comparison_at}
use Rattle.px_order.specs.Kept.{IsSaidBy}

none_with_more : (ks more : List Comparison) → HaveNoSolution ks → HaveNoSolution (ks ++ more)
none_with_more ks more none v all = none v (subst (All (Holds v)) (take-append_seam ks more) (All-take (Holds v) (length ks) (ks ++ more) all))

module _ (old now added : List Comparison) (i : ℕ) (inside : i < length added) (so_far : now ≡ old ++ take i added) where
  abbrev next : Comparison
  next = comparison_at added i

  one_more : now ++ next ∷ [] ≡ old ++ take (i + 1) added
  one_more =
      ap (λ ks. ks ++ next ∷ []) so_far
      ∙ append_assoc old (take i added) (next ∷ [])
      ∙ ap (λ ks. old ++ ks) (sym (take_more added i (record { first = 0; second = 0; strict = false }) inside))

  pub added_more : (new : List Comparison) → new ≡ now ++ next ∷ [] → new ≡ old ++ take (i + 1) added
  added_more new e = e ∙ one_more

  pub closed_with_all : HaveNoSolution (now ++ next ∷ []) → HaveNoSolution (old ++ added)
  closed_with_all none =
      subst HaveNoSolution (append_assoc old (take (i + 1) added) (drop (i + 1) added) ∙ ap (λ ks. old ++ ks) (take-append-drop (i + 1) added))
      (none_with_more (old ++ take (i + 1) added) (drop (i + 1) added) (subst HaveNoSolution one_more none))

-- what a conjunct adds to nothing is what it says
pub said_alone : (c : Conj) (old added : List Comparison) → old ≡ [] → Adds c old added → IsSaidBy c added
said_alone c old added e adds v = (
  λ all. ((adds.same v).0 all).1,
  λ h. (adds.same v).1 (subst (All (Holds v)) (sym e) (All-nil (Holds v)), h),
)
