-- An entry that frees a block and doesn't leave it is no valid triple.
use Rattle.std.proofs.Common.{◌≡◌, ℕ, zero, suc, Some, None, [], ◌∷◌, pos, slice_get, inl, inr, sym, ap, ◌∙◌, subst, arith}
use Rattle.std.proofs.lemmas.List.Elements.{All-nil}
use Rattle.std.proofs.lemmas.Option.{same_Some}
use Rattle.px_base.specs.declared.trace.Kind.TheVariants.{DoubleFree}
use Rattle.px_terms.specs.Valuations.{Valuation, valuation_of, FitsSort}
use Rattle.px_terms.specs.Conjuncts.{IsTrueUnder}
use Rattle.px_terms.specs.declared.types.TypeId.{TypeId}
use Rattle.px_terms.specs.declared.types.ValueType.TheVariants.{Pointer}
use Rattle.px_terms.specs.declared.types.Value.TheVariants as value
use Rattle.px_terms.specs.declared.variables.VarInfo.{VarInfo}
use Rattle.px_terms.specs.declared.variables.Sort.TheVariants as sort
use Rattle.px_entry.specs.declared.entries.Entry.{Entry}
use Rattle.px_entry.specs.declared.entries.Exit.TheVariants.{Error}
use Rattle.px_entry.specs.Satisfied.{Satisfies}
use Rattle.px_callgraph.specs.WorkedStates.{int_block}
use Rattle.px_callgraph.specs.WorkedPaths.{site, unknown, a_cell, twice}
use Rattle.px_meaning.specs.Heaps.{HeapMap, only_block, AreApart}
use Rattle.px_meaning.specs.Steps.{freed_block}
use Rattle.px_meaning.specs.Triples.{IsTaken, IsValid, heap_of}
use Rattle.px_meaning.specs.CoreCalls.{CoreCalls}
use Rattle.px_soundness.specs.WorkedTriples.{program, an_entry}
use Rattle.px_soundness.proofs.AtomHeaps.{absent, at_heap}

abbrev lossy : Entry
lossy = an_entry (Error DoubleFree (site 24)) twice (a_cell ∷ []) [] (unknown 1 ∷ []) [] (value.Block 1 ∷ value.Word (pos 0) ∷ [])

abbrev v : Valuation
v = valuation_of lossy.model

sorts : (x : ℕ) (i : VarInfo) → slice_get lossy.vars x ≡ Some i → FitsSort i.sort i.value (v x)
sorts zero i e = subst (λ (k : VarInfo). FitsSort k.sort k.value (v 0)) (same_Some _ _ e) tt
sorts (suc zero) i e = subst (λ (k : VarInfo). FitsSort k.sort k.value (v 1)) (same_Some _ _ e) (omega arith)
sorts (suc (suc x)) i e = absent e

made : (x : ℕ) (i : VarInfo) → slice_get lossy.vars x ≡ Some i → i.sort ≡ sort.Made → ⊥
made zero i e m = let f : sort.Given ≡ sort.Made = ap (λ (k : VarInfo). k.sort) (same_Some _ _ e) ∙ m in cc
made (suc zero) i e m = let f : sort.Cell ≡ sort.Made = ap (λ (k : VarInfo). k.sort) (same_Some _ _ e) ∙ m in cc
made (suc (suc x)) i e m = absent e

pointed : (x : ℕ) (i : VarInfo) (s : TypeId) → slice_get lossy.vars x ≡ Some i → i.value ≡ Pointer s → int_block ≡ s
pointed zero i s e p = let f : Pointer int_block ≡ Pointer s = ap (λ (k : VarInfo). k.value) (same_Some _ _ e) ∙ p in cc
pointed (suc zero) i s e p = absurd (let f = ap (λ (k : VarInfo). k.value) (same_Some _ _ e) ∙ p in cc)
pointed (suc (suc x)) i s e p = absent e

satisfies : Satisfies v lossy
satisfies = record {
  fits = record {
    sorts = sorts;
    made = λ x y i j e f m. absurd (made x i e m);
    types = λ x y i j s t b e f p q g h. sym (pointed x i s e p) ∙ pointed y j t f q;
  };
  true_of = All-nil (IsTrueUnder v);
}

pub lost_block : ¬ IsValid (CoreCalls program 0) 1 lossy
lost_block valid =
    let taken : IsTaken (CoreCalls program 0) 1 lossy v = valid v satisfies in
    let further : HeapMap = only_block 1 (freed_block 0) in
    let apart : AreApart taken.before further = (taken.takes further (λ n. inl (at_heap n taken.leaves.1))).0 in
    elim (apart 1) [
      | inl e ↦ (let f : None ≡ heap_of v lossy.pre 1 = sym e ∙ at_heap 1 taken.finds.1 in absent f)
      | inr e ↦ absent (sym e)
    ]
