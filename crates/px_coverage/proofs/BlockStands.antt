-- Blocks that change, are met and are made: what the state stands for.
use Rattle.std.proofs.Common.{◌≡◌, ◌≢◌, ◌⊎◌, ℕ, zero, suc, Bool, true, false, cond, nat_eq, Option, Some, None, List, [], ◌∷◌, ◌++◌, slice_get, refl, sym, ap, ◌∙◌, subst, inl, inr}
use Rattle.std.specs.Prelude.{option_map}
use mathlib.Core.Path.{fun_ext}
use Rattle.px_terms.specs.Valuations.{Valuation}
use Rattle.px_terms.specs.declared.types.Value.TheVariants as value
use Rattle.px_terms.specs.declared.variables.VarInfo.{VarInfo}
use Rattle.px_terms.specs.declared.conjuncts.Conj.{Conj}
use Rattle.px_entry.specs.declared.atoms.Atom.{Atom}
use Rattle.px_entry.specs.declared.atoms.AtomState.{AtomState}
use Rattle.px_entry.specs.Standing.{is_block, atom_at}
use Rattle.px_callgraph.specs.Accesses.{with_state, set_atom}
use Rattle.px_meaning.specs.Heaps.{HeapMap, HeapBlock, with_block, without_block, join}
use Rattle.px_meaning.specs.Triples.{block_of, heap_of}
use Rattle.px_meaning.proofs.Joins.{with_same, with_other, without_same, without_other, with_join, join_has, join_lacks, same_or_other}
use Rattle.px_soundness.proofs.AtomHeaps.{absent, at_heap, Placed, changed, placed_more, heap_more}
use Rattle.px_coverage.specs.Covered.{Execution}
use Rattle.px_coverage.proofs.Stands.{Stands}

-- a block goes from the one heap to the other
pub moved_block : (h rest : HeapMap) (m : ℕ) (b : HeapBlock) → h m ≡ None → rest m ≡ Some b → join (with_block h m b) (without_block rest m) ≡ join h rest
moved_block h rest m b out there = fun_ext (λ n. elim (same_or_other n m) [
  | inl e ↦ subst (λ z. join (with_block h m b) (without_block rest m) z ≡ join h rest z) (sym e.0)
      (join_has (with_block h m b) (without_block rest m) m b (with_same h m b) ∙ sym there ∙ sym (join_lacks h rest m out))
  | inr e ↦ other n e.0 (h n) refl
])
  where
    other : (n : ℕ) → n ≢ m → (o : Option HeapBlock) → h n ≡ o → join (with_block h m b) (without_block rest m) n ≡ join h rest n
    other n d None is = join_lacks (with_block h m b) (without_block rest m) n (with_other h m b n d ∙ is) ∙ without_other rest m n d ∙ sym (join_lacks h rest n is)
    other n d (Some c) is = join_has (with_block h m b) (without_block rest m) n c (with_other h m b n d ∙ is) ∙ sym (join_has h rest n c is)

module _ (v : Valuation) where
  set_none_if : (q : Bool) (b b' : Atom) (x : Option Atom) → option_map (block_of v) (cond q (Some b) x) ≡ None → option_map (block_of v) (cond q (Some b') x) ≡ None
  set_none_if true b b' x e = absent (sym e)
  set_none_if false b b' x e = e

  later_if : (q : Bool) (b : Atom) (x y : Option Atom) → (option_map (block_of v) x ≡ None → option_map (block_of v) y ≡ None) → option_map (block_of v) (cond q (Some b) x) ≡ None → option_map (block_of v) (cond q (Some b) y) ≡ None
  later_if true b x y f e = absent (sym e)
  later_if false b x y f e = f e

  pub set_none : (xs : List Atom) (i : ℕ) (st : AtomState) (n : ℕ) → heap_of v xs n ≡ None → heap_of v (set_atom i st xs) n ≡ None
  set_none [] i st n e = e
  set_none (b ∷ rest) zero st n e = set_none_if (is_block n (v b.place.0)) b (with_state st b) (atom_at v rest n) e
  set_none (b ∷ rest) (suc i) st n e = later_if (is_block n (v b.place.0)) b (atom_at v rest n) (atom_at v (set_atom i st rest) n) (set_none rest i st n) e

  pub placed_changed : (xs : List Atom) (i : ℕ) (st : AtomState) → Placed v xs → Placed v (set_atom i st xs)
  placed_changed [] i st p = tt
  placed_changed (b ∷ rest) zero st (n, at, out, p) = (n, at, out, p)
  placed_changed (b ∷ rest) (suc i) st (n, at, out, p) = (n, at, set_none rest i st n out, placed_changed rest i st p)

  -- the atom of a block
  pub atom_of_block : (xs : List Atom) (n : ℕ) (b : HeapBlock) → Placed v xs → heap_of v xs n ≡ Some b → (i : ℕ) × (a : Atom) × (slice_get xs i ≡ Some a) × (v a.place.0 ≡ value.Block n) × (block_of v a ≡ b)
  atom_of_block [] n b p e = absent e
  atom_of_block (a ∷ rest) n b (m, at, out, p) e = by (same_or_other m n) (atom_of_block rest n b p)
    where
      some_block : {x y : HeapBlock} → Some x ≡ Some y → x ≡ y
      some_block f = cc

      by : ((m ≡ n) × (nat_eq m n ≡ true)) ⊎ ((m ≢ n) × (nat_eq m n ≡ false)) →
          (heap_of v rest n ≡ Some b → (i : ℕ) × (c : Atom) × (slice_get rest i ≡ Some c) × (v c.place.0 ≡ value.Block n) × (block_of v c ≡ b)) →
          (i : ℕ) × (c : Atom) × (slice_get (a ∷ rest) i ≡ Some c) × (v c.place.0 ≡ value.Block n) × (block_of v c ≡ b)
      by (inl is) later = (0, a, refl, at ∙ ap value.Block is.0, some_block (ap (λ q. option_map (block_of v) (cond q (Some a) (atom_at v rest n))) (sym (ap (is_block n) at ∙ is.1)) ∙ e))
      by (inr is) later = let (i, c, got, pl, same) = later (ap (λ q. option_map (block_of v) (cond q (Some a) (atom_at v rest n))) (sym (ap (is_block n) at ∙ is.1)) ∙ e) in (suc i, c, got, pl, same)

module _ (e : Execution) (v : Valuation) (rest : HeapMap) (vars : List VarInfo) (pure : List Conj) (pre atoms : List Atom) where
  -- the state of an atom changes
  module _ (i : ℕ) (a : Atom) (m : ℕ) (st : AtomState) (got : slice_get atoms i ≡ Some a) (at : v a.place.0 ≡ value.Block m) (s : Stands e v rest vars pure pre atoms) where
    pub stands_changed : Stands e v rest vars pure pre (set_atom i st atoms)
    stands_changed = record {
      sorts = s.sorts;
      given = s.given;
      true_of = s.true_of;
      placed = placed_changed v atoms i st s.placed;
      apart = λ n. elim (s.apart n) [ inl out ↦ inl (set_none v atoms i st n out) | inr out ↦ inr out ];
      begins = s.begins;
    }

    pub heap_changed : join (heap_of v (set_atom i st atoms)) rest ≡ with_block (join (heap_of v atoms) rest) m (block_of v (with_state st a))
    heap_changed = ap (λ h. join h rest) (changed v atoms i a m st s.placed got at) ∙ sym (with_join (heap_of v atoms) rest m (block_of v (with_state st a)))

  -- a block is met
  module _ (a : Atom) (m : ℕ) (at : v a.place.0 ≡ value.Block m) (out : heap_of v atoms m ≡ None) (not_found : heap_of v pre m ≡ None) (there : rest m ≡ Some (block_of v a)) (s : Stands e v rest vars pure pre atoms) where
    heap_is : heap_of v (atoms ++ a ∷ []) ≡ with_block (heap_of v atoms) m (block_of v a)
    heap_is = heap_more v atoms a m at out

    pub stands_met : Stands e v (without_block rest m) vars pure (pre ++ a ∷ []) (atoms ++ a ∷ [])
    stands_met = record {
      sorts = s.sorts;
      given = s.given;
      true_of = s.true_of;
      placed = placed_more v atoms a m s.placed at out;
      apart = λ n. elim (same_or_other n m) [
        | inl is ↦ inr (ap (without_block rest m) is.0 ∙ without_same rest m)
        | inr is ↦ elim (s.apart n) [
          | inl none ↦ inl (at_heap n heap_is ∙ with_other (heap_of v atoms) m (block_of v a) n is.0 ∙ none)
          | inr none ↦ inr (without_other rest m n is.0 ∙ none)
        ]
      ];
      begins = s.begins ∙ sym (moved_block (heap_of v pre) rest m (block_of v a) not_found there) ∙ ap (λ h. join h (without_block rest m)) (sym (heap_more v pre a m at not_found));
    }

    pub heap_met : join (heap_of v (atoms ++ a ∷ [])) (without_block rest m) ≡ join (heap_of v atoms) rest
    heap_met = ap (λ h. join h (without_block rest m)) heap_is ∙ moved_block (heap_of v atoms) rest m (block_of v a) out there

  -- a block is made
  module _ (a : Atom) (m : ℕ) (at : v a.place.0 ≡ value.Block m) (out : heap_of v atoms m ≡ None) (none : rest m ≡ None) (s : Stands e v rest vars pure pre atoms) where
    pub stands_made : Stands e v rest vars pure pre (atoms ++ a ∷ [])
    stands_made = record {
      sorts = s.sorts;
      given = s.given;
      true_of = s.true_of;
      placed = placed_more v atoms a m s.placed at out;
      apart = λ n. elim (same_or_other n m) [
        | inl is ↦ inr (ap rest is.0 ∙ none)
        | inr is ↦ elim (s.apart n) [
          | inl out' ↦ inl (at_heap n (heap_more v atoms a m at out) ∙ with_other (heap_of v atoms) m (block_of v a) n is.0 ∙ out')
          | inr none' ↦ inr none'
        ]
      ];
      begins = s.begins;
    }

    pub heap_made : join (heap_of v (atoms ++ a ∷ [])) rest ≡ with_block (join (heap_of v atoms) rest) m (block_of v a)
    heap_made = ap (λ h. join h rest) (heap_more v atoms a m at out) ∙ sym (with_join (heap_of v atoms) rest m (block_of v a))
