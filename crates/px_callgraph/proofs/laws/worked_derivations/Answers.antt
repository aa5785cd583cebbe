use Rattle.std.proofs.Common.{◌≡◌, ℕ, zero, suc, [], ◌∷◌, Some, slice_get, inl, inr, refl, subst}
use Rattle.std.proofs.lemmas.List.Elements.{All-nil}
use Rattle.px_terms.specs.Valuations.{Valuation, valuation_of, FitsSort, Fits}
use Rattle.px_terms.specs.declared.types.Value.TheVariants as value
use Rattle.px_terms.specs.declared.types.ValueType.TheVariants.{Pointer}
use Rattle.px_terms.specs.declared.variables.VarInfo.{VarInfo}
use Rattle.px_terms.specs.declared.variables.Sort.TheVariants as sort
use Rattle.px_callgraph.specs.Alternatives.{ways, act}
use Rattle.px_callgraph.specs.WorkedStates.{int_block, of_sort}
use Rattle.px_callgraph.proofs.laws.worked_derivations.Goals as goal

-- no variables are fitted by any values
none_fit : (v : Valuation) → Fits [] v
none_fit v = record { sorts = λ x i e. cc; made = λ x y i j e. cc; types = λ x y i j s t b e. cc }

a_made : VarInfo
a_made = of_sort sort.Made (Pointer int_block)

-- one made variable is fitted by a block
one_fits : Fits (of_sort sort.Made (Pointer int_block) ∷ []) (valuation_of (value.Block 1 ∷ []))
one_fits = record {
  sorts = λ x i e. at x i e;
  made = λ x y i j e f m d. absurd (alone x y i j e f d);
  types = λ x y i j s t b e f p q a d. of_one x y i j s t e f p q;
}
  where
    info_is : (x : ℕ) (i : VarInfo) → slice_get (of_sort sort.Made (Pointer int_block) ∷ []) x ≡ Some i → (x ≡ 0) × (of_sort sort.Made (Pointer int_block) ≡ i)
    info_is zero i e = (refl, cc)
    info_is (suc x) i e = cc

    at : (x : ℕ) (i : VarInfo) → slice_get (of_sort sort.Made (Pointer int_block) ∷ []) x ≡ Some i → FitsSort i.sort i.value (valuation_of (value.Block 1 ∷ []) x)
    at zero i e = let f : of_sort sort.Made (Pointer int_block) ≡ i = cc in subst (λ (k : VarInfo). FitsSort k.sort k.value (value.Block 1)) f (tt, tt)
    at (suc x) i e = cc

    alone : (x y : ℕ) (i j : VarInfo) → slice_get (of_sort sort.Made (Pointer int_block) ∷ []) x ≡ Some i → slice_get (of_sort sort.Made (Pointer int_block) ∷ []) y ≡ Some j → (x ≡ y → ⊥) → ⊥
    alone zero zero i j e f d = d refl
    alone zero (suc y) i j e f d = cc
    alone (suc x) y i j e f d = cc

    of_one : (x y : ℕ) (i j : VarInfo) (s t : _) → slice_get (of_sort sort.Made (Pointer int_block) ∷ []) x ≡ Some i → slice_get (of_sort sort.Made (Pointer int_block) ∷ []) y ≡ Some j → i.value ≡ Pointer s → j.value ≡ Pointer t → s ≡ t
    of_one zero zero i j s t e f p q = cc
    of_one zero (suc y) i j s t e f p q = cc
    of_one (suc x) y i j s t e f p q = cc

pub returns : goal.returns
unfolding ways act
returns c = record {
  null = record {
    place = 6;
    state = _;
    exit = _;
    result = _;
    runs = (12, refl);
    is_end = record { proc = refl; trace = refl; exit = refl; result = refl; vars = refl; pure = refl; pre = refl; post = refl; satisfied = record { size = refl; values = record { fits = none_fit _; true_of = All-nil _ } } };
  };
  freed = record {
    place = 12;
    state = _;
    exit = _;
    result = _;
    runs = (40, refl);
    is_end = record { proc = refl; trace = refl; exit = refl; result = refl; vars = refl; pure = refl; pre = refl; post = refl; satisfied = record { size = refl; values = record { fits = one_fits; true_of = All-nil _ } } };
  };
  too_few = inl (40, refl);
  early = inl (40, refl);
  behind = inr (inr (
    12,
    _,
    _,
    _,
    _,
    _,
    (40, refl),
    record { proc = refl; trace = refl; exit = refl; result = refl; vars = refl; pure = refl; pre = refl; post = refl; satisfied = record { size = refl; values = record { fits = one_fits; true_of = All-nil _ } } },
    refl,
    refl,
  ));
  not_null = inl (40, refl);
  not_live = inl (40, refl);
  no_second = inl (40, refl);
  wrong_values = inr (inl (_, _, _, _, (40, refl), (λ h. (h.satisfied.values.fits.sorts 0 (of_sort sort.Made (Pointer int_block)) refl).1), refl));
  other_entry = inr (inl (_, _, _, _, (40, refl), (λ h. let e = h.exit in cc), refl));
  not_used = (40, refl);
  wrong_use = (40, refl);
  used_by_none = (40, refl);
}
