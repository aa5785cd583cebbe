-- An entry of a callee and an execution that it is of: what was found, what was made, and the rest.
use Rattle.std.proofs.Common.{◌≡◌, ◌≢◌, ◌⊎◌, ℕ, suc, ◌+◌, Bool, true, false, cond, not, nat_eq, Option, Some, None, List, [], ◌∷◌, ◌++◌, map, refl, sym, ap, ◌∙◌, subst, inl, inr, arith}
use Rattle.std.specs.Prelude.{filter}
use Rattle.std.proofs.lemmas.Bool.{eqb-true}
use mathlib.Core.Path.{fun_ext}
use Rattle.px_terms.specs.Valuations.{Valuation}
use Rattle.px_terms.specs.Conjuncts.{IsTrueUnder}
use Rattle.px_terms.specs.declared.types.BlockType.{BlockType}
use Rattle.px_terms.specs.declared.types.Value.TheVariants as value
use Rattle.px_entry.specs.declared.atoms.Atom.{Atom}
use Rattle.px_entry.specs.declared.entries.Entry.{Entry}
use Rattle.px_entry.specs.Sorts.{is_made}
use Rattle.px_entry.specs.Constraint.{found_atoms, made_atoms, separate}
use Rattle.px_entry.specs.Regular.{is_regular}
use Rattle.px_entry.specs.Standing.{is_block}
use Rattle.px_entry.proofs.Lists.{Each, all_each}
use Rattle.px_meaning.specs.Heaps.{HeapMap, HeapBlock, or_else, join, AreApart}
use Rattle.px_meaning.specs.Triples.{block_of, heap_of}
use Rattle.px_meaning.proofs.Joins.{with_other, join_lacks, same_or_other}
use Rattle.px_soundness.proofs.WellFormed.{times}
use Rattle.px_soundness.proofs.AtomHeaps.{absent, none_not_some, at_heap, Placed, placed_from, heap_append, heap_cons, there}
use Rattle.px_soundness.proofs.EntryHeaps.{alike, post_is}
use Rattle.px_soundness.proofs.EntryParts.{Parts, parts}
use Rattle.px_soundness.proofs.CallFrames.{minus, after_call}
use Rattle.px_soundness.proofs.CallMade.{stands_there}
use Rattle.px_coverage.specs.Covered.{Execution, IsOf}
use Rattle.px_coverage.proofs.Stands.{IsPlaceIn, filter_within, placed_filter}
use Rattle.px_check.proofs.ValueLemmas.{each_split}

-- ---- lists of atoms

-- those that pass a test have no block of those that don't
split_apart : (v : Valuation) (test : Atom → Bool) (xs : List Atom) → Placed v xs → AreApart (heap_of v (filter (λ a. not (test a)) xs)) (heap_of v (filter test xs))
split_apart v test [] p n = inl refl
split_apart v test (a ∷ xs) (m, at, out, p) n = by (test a) (filter (λ a. not (test a)) xs) (filter test xs) (filter_within v (λ a. not (test a)) xs m out) (filter_within v test xs m out) (same_or_other n m) (split_apart v test xs p n)
  where
    by : (q : Bool) (kept made : List Atom) → heap_of v kept m ≡ None → heap_of v made m ≡ None → ((n ≡ m) × (nat_eq n m ≡ true)) ⊎ ((n ≢ m) × (nat_eq n m ≡ false)) → (heap_of v kept n ≡ None) ⊎ (heap_of v made n ≡ None) →
        (heap_of v (cond (not q) (a ∷ kept) kept) n ≡ None) ⊎ (heap_of v (cond q (a ∷ made) made) n ≡ None)
    by true kept made f g (inl e) rest = inl (subst (λ z. heap_of v kept z ≡ None) (sym e.0) f)
    by true kept made f g (inr e) (inl h) = inl h
    by true kept made f g (inr e) (inr h) = inr (at_heap n (heap_cons v a made m at) ∙ with_other (heap_of v made) m (block_of v a) n e.0 ∙ h)
    by false kept made f g (inl e) rest = inr (subst (λ z. heap_of v made z ≡ None) (sym e.0) g)
    by false kept made f g (inr e) (inl h) = inl (at_heap n (heap_cons v a kept m at) ∙ with_other (heap_of v kept) m (block_of v a) n e.0 ∙ h)
    by false kept made f g (inr e) (inr h) = inr h

-- a number that stands among the places is the place of one
place_in : (xs : List Atom) (x k : ℕ) → times x (map (λ (a : Atom). a.place.0) xs) ≡ suc k → IsPlaceIn xs x
place_in [] x k e = absurd (let f : ⊥ = omega (arith, e) in f)
place_in (a ∷ xs) x k e = by (nat_eq x a.place.0) refl (λ e. let (i, b, at, is) = place_in xs x k e in (suc i, b, at, is)) e
  where
    by : (q : Bool) → nat_eq x a.place.0 ≡ q → (times x (map (λ (a : Atom). a.place.0) xs) ≡ suc k → IsPlaceIn (a ∷ xs) x) →
        cond q (1 + times x (map (λ (a : Atom). a.place.0) xs)) (times x (map (λ (a : Atom). a.place.0) xs)) ≡ suc k → IsPlaceIn (a ∷ xs) x
    by true is later e = (0, a, refl, sym (eqb-true x a.place.0 is))
    by false is later e = later e

pub placed_append : (v : Valuation) (xs ys : List Atom) → Placed v xs → Placed v ys → AreApart (heap_of v xs) (heap_of v ys) → Placed v (xs ++ ys)
placed_append v [] ys p q apart = q
placed_append v (a ∷ xs) ys (m, at, out, p) q apart = (m, at, at_heap m (heap_append v xs ys) ∙ join_lacks (heap_of v xs) (heap_of v ys) m out ∙ here, placed_append v xs ys p q later)
  where
    here : heap_of v ys m ≡ None
    here = elim (apart m) [
      | inl e ↦ absurd (none_not_some (heap_of v (a ∷ xs) m) (block_of v a) e (there v (a ∷ xs) 0 a m (m, at, out, p) refl at))
      | inr e ↦ e
    ]

    behind : (n : ℕ) (q : Bool) → is_block n (v a.place.0) ≡ q → heap_of v (a ∷ xs) n ≡ None → heap_of v xs n ≡ None
    behind n q is e = elim (same_or_other n m) [
      | inl f ↦ subst (λ z. heap_of v xs z ≡ None) (sym f.0) out
      | inr f ↦ sym (with_other (heap_of v xs) m (block_of v a) n f.0) ∙ sym (at_heap n (heap_cons v a xs m at)) ∙ e
    ]

    later : AreApart (heap_of v xs) (heap_of v ys)
    later n = elim (apart n) [ inl e ↦ inl (behind n (is_block n (v a.place.0)) refl e) | inr e ↦ inr e ]

-- ---- one execution

minus_same : (taken rest : HeapMap) → AreApart taken rest → minus (join taken rest) taken ≡ rest
minus_same taken rest apart = fun_ext (λ n. by n (taken n) (rest n) (apart n))
  where
    by : (n : ℕ) (o r : Option HeapBlock) → (o ≡ None) ⊎ (r ≡ None) → minus (λ _. or_else o r) (λ _. o) n ≡ r
    by n None r h = refl
    by n (Some b) r (inl e) = absent (sym e)
    by n (Some b) r (inr e) = sym e

module _ (types : List BlockType) (n : ℕ) (x : Entry) (regular : is_regular types n x ≡ true) (inner : Execution) (is_of : IsOf inner x) where
  abbrev w : Valuation
  w = is_of.valuation

  of : Parts types x
  of = parts types n x regular

  -- the blocks that it requires, as it leaves them, and those that it makes
  abbrev pub Required : HeapMap
  Required = heap_of w x.pre

  abbrev pub Kept : HeapMap
  Kept = heap_of w (found_atoms x.vars x.post)

  abbrev pub Made : HeapMap
  Made = heap_of w (made_atoms x.vars x.post)

  pub pre_placed : Placed w x.pre
  pre_placed = placed_from w x.pre is_of.finds.0

  pub post_placed : Placed w x.post
  post_placed = placed_from w x.post is_of.leaves.0

  pub made_placed : Placed w (made_atoms x.vars x.post)
  made_placed = placed_filter w (λ (a : Atom). is_made x.vars a.place.0) x.post post_placed

  pub conjuncts_true : Each (IsTrueUnder w) x.pure
  conjuncts_true = (each_split (IsTrueUnder w) x.pure (separate x.vars x.post) (all_each (IsTrueUnder w) _ is_of.satisfies.true_of)).0

  pub before_is : inner.before ≡ join Required is_of.rest
  before_is = is_of.begins ∙ ap (λ h. join h is_of.rest) is_of.finds.1

  left_is : is_of.left ≡ join Kept Made
  left_is = is_of.leaves.1 ∙ post_is w x.vars x.post post_placed

  apart_before : AreApart Required is_of.rest
  apart_before = subst (λ h. AreApart h is_of.rest) is_of.finds.1 is_of.apart_before

  -- what is made wasn't there before
  pub made_new : AreApart Made inner.before
  made_new m = by (Made m) refl
    where
      by : (o : Option HeapBlock) → Made m ≡ o → (Made m ≡ None) ⊎ (inner.before m ≡ None)
      by None none = inl none
      by (Some b) has =
          let kept : Kept m ≡ None = elim (split_apart w (λ (a : Atom). is_made x.vars a.place.0) x.post post_placed m) [ inl e ↦ e | inr e ↦ absurd (none_not_some (Made m) b e has) ] in
          let required : Required m ≡ None = (alike w x.pre (found_atoms x.vars x.post) of.blocks m).1 kept in
          let left : is_of.left m ≡ Some b = at_heap m left_is ∙ join_lacks Kept Made m kept ∙ has in
          let rest : is_of.rest m ≡ None = elim (is_of.apart_after m) [ inl e ↦ absurd (none_not_some (is_of.left m) b e left) | inr e ↦ e ] in
          inr (at_heap m before_is ∙ join_lacks Required is_of.rest m required ∙ rest)

  -- the block of a made variable is one of those
  pub made_there : (y m : ℕ) → is_made x.vars y ≡ true → w y ≡ value.Block m → (b : HeapBlock) × (Made m ≡ Some b)
  made_there y m made at =
      let (i, a, got, place) = place_in (made_atoms x.vars x.post) y 0 (stands_there x.vars x.post of.once y made) in
      (block_of w a, there w (made_atoms x.vars x.post) i a m made_placed got (ap w place ∙ at))

  -- what is left, and the rest: the heap after
  pub after_is : (heap further : HeapMap) → inner.before ≡ join heap further → inner.after ≡ join (join (join Kept heap) Made) further
  after_is heap further same =
      is_of.ends
      ∙ ap (λ h. join h is_of.rest) left_is
      ∙ ap (join (join Kept Made)) (sym (minus_same Required is_of.rest apart_before) ∙ ap (λ h. minus h Required) (sym before_is ∙ same))
      ∙ after_call Required Kept Made heap further (alike w x.pre (found_atoms x.vars x.post) of.blocks) (λ m. subst (λ (h : HeapMap). (Made m ≡ None) ⊎ (h m ≡ None)) same (made_new m))
