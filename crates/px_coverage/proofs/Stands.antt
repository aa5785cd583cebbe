-- What a state stands for in an execution that is under way.
--
-- Everything is said of the heap that the execution began with. A variable that isn't made has a value of that heap,
-- and a made one has a block that isn't in it.
use Rattle.std.proofs.Common.{◌≡◌, ◌≢◌, ℕ, suc, ◌+◌, ◌<◌, Bool, true, false, cond, not, nat_eq, Option, Some, None, List, [], ◌∷◌, length, map, slice_get, refl, sym, ap, ◌∙◌, subst, arith}
use Rattle.std.specs.Prelude.{option_map, filter}
use Rattle.std.proofs.lemmas.Bool.{eqb-true}
use Rattle.std.proofs.lemmas.Option.{same_Some}
use Rattle.px_terms.specs.Valuations.{Valuation, IsBlock, HasType, FitsSort, Fits}
use Rattle.px_terms.specs.Conjuncts.{IsTrueUnder}
use Rattle.px_terms.specs.declared.types.TypeId.{TypeId}
use Rattle.px_terms.specs.declared.types.BlockType.{BlockType}
use Rattle.px_terms.specs.declared.types.ValueType.{ValueType}
use Rattle.px_terms.specs.declared.types.ValueType.TheVariants.{Pointer}
use Rattle.px_terms.specs.declared.types.Value.{Value}
use Rattle.px_terms.specs.declared.types.Value.TheVariants as value
use Rattle.px_terms.specs.declared.variables.VarInfo.{VarInfo}
use Rattle.px_terms.specs.declared.variables.Sort.{Sort}
use Rattle.px_terms.specs.declared.variables.Sort.TheVariants as sort
use Rattle.px_terms.specs.declared.conjuncts.Conj.{Conj}
use Rattle.px_entry.specs.declared.atoms.Atom.{Atom}
use Rattle.px_entry.specs.Sorts.{is_made_sort, same_type, is_made}
use Rattle.px_entry.specs.Constraint.{found_atoms}
use Rattle.px_entry.specs.Regular.{same_blocks}
use Rattle.px_entry.specs.Standing.{is_block, atom_at}
use Rattle.px_entry.proofs.Lists.{Each}
use Rattle.px_meaning.specs.Heaps.{HeapMap, HeapBlock, HasBlockType, IsWritten, IsCell, join, AreApart}
use Rattle.px_meaning.specs.Triples.{block_of, heap_of}
use Rattle.px_meaning.proofs.Joins.{join_lacks}
use Rattle.px_soundness.proofs.WellFormed.{GoodAtom, times, Complete}
use Rattle.px_soundness.proofs.AtomHeaps.{absent, at_heap, Placed}
use Rattle.px_soundness.proofs.Truths.{variable_is}
use Rattle.px_soundness.proofs.EntryHeaps.{same_head, alike}
use Rattle.px_soundness.proofs.WellTyped.{each_get}
use Rattle.px_soundness.proofs.FitsThrough.{same_is}
use Rattle.px_coverage.specs.Covered.{Execution}
use Rattle.px_terms.proofs.Places.{pointer_is}
use Rattle.px_soundness.proofs.CallTaken.{one_block}
use Rattle.px_meaning.proofs.TypedHeaps.{written_type, written_block}

-- ---- the values of variables

-- a value of this sort and type
abbrev pub HasSort : HeapMap → Sort → ValueType → Value → Type 0
HasSort heap sort.Given t u = IsWritten heap t u
HasSort heap sort.Cell t u = IsCell heap t u
HasSort heap sort.Input t u = IsWritten heap t u
HasSort heap sort.Made t u = (n : ℕ) × (b : TypeId) × (t ≡ Pointer b) × (u ≡ value.Block n) × (heap n ≡ None)

cell_sort : (heap : HeapMap) (t : ValueType) (u : Value) → IsCell heap t u → FitsSort sort.Cell t u
cell_sort heap t value.Unwritten h = tt
cell_sort heap t (value.Word z) h = written_type heap t (value.Word z) h
cell_sort heap t value.Null h = written_type heap t value.Null h
cell_sort heap t (value.Block n) h = written_type heap t (value.Block n) h

pub sort_fits : (heap : HeapMap) (s : Sort) (t : ValueType) (u : Value) → HasSort heap s t u → FitsSort s t u
sort_fits heap sort.Given t u h = written_type heap t u h
sort_fits heap sort.Cell t u h = cell_sort heap t u h
sort_fits heap sort.Input t u h = written_type heap t u h
sort_fits heap sort.Made t u (n, b, is, at, out) =
    (subst (λ z. HasType z u) (sym is) (subst (λ z. HasType (Pointer b) z) (sym at) tt), subst IsBlock (sym at) tt)

cell_block : (heap : HeapMap) (t : ValueType) (u : Value) (n : ℕ) → IsCell heap t u → u ≡ value.Block n → (b : TypeId) × (t ≡ Pointer b) × HasBlockType b.0 (heap n)
cell_block heap t u n h e = written_block heap t (value.Block n) n (subst (IsCell heap t) e h) refl

-- the block of a variable that isn't made is in the heap, with the variable's type
pub sort_block : (heap : HeapMap) (s : Sort) (t : ValueType) (u : Value) (n : ℕ) → HasSort heap s t u → is_made_sort s ≡ false → u ≡ value.Block n → (b : TypeId) × (t ≡ Pointer b) × HasBlockType b.0 (heap n)
sort_block heap sort.Given t u n h m e = written_block heap t u n h e
sort_block heap sort.Cell t u n h m e = cell_block heap t u n h e
sort_block heap sort.Input t u n h m e = written_block heap t u n h e
sort_block heap sort.Made t u n h m e = absurd (let f : true ≡ false = m in cc)

pub made_out : (heap : HeapMap) (s : Sort) (t : ValueType) (u : Value) (n : ℕ) → HasSort heap s t u → is_made_sort s ≡ true → u ≡ value.Block n → heap n ≡ None
made_out heap sort.Given t u n h m e = absurd (let f : false ≡ true = m in cc)
made_out heap sort.Cell t u n h m e = absurd (let f : false ≡ true = m in cc)
made_out heap sort.Input t u n h m e = absurd (let f : false ≡ true = m in cc)
made_out heap sort.Made t u n (k, b, is, at, out) m e = subst (λ z. heap z ≡ None) (let f : value.Block k ≡ value.Block n = sym at ∙ e in cc) out

pub has_type_not_none : (t : ℕ) (o : Option HeapBlock) → HasBlockType t o → o ≡ None → ⊥
has_type_not_none t None h e = h
has_type_not_none t (Some b) h e = absent (sym e)

pub same_block_type : (s t : ℕ) (o : Option HeapBlock) → HasBlockType s o → HasBlockType t o → s ≡ t
same_block_type s t None h k = absurd h
same_block_type s t (Some b) h k = sym h ∙ k

-- ---- states

-- Under the valuation variables have values of their sorts, the first ones those of the arguments, and the conjuncts are
-- true. The atoms are blocks of the present heap, and `rest` are those of the heap before that weren't met.
pub record Stands (e : Execution) (v : Valuation) (rest : HeapMap) (vars : List VarInfo) (pure : List Conj) (pre atoms : List Atom) : Type 0 where
  pub sorts : (x : ℕ) (i : VarInfo) → slice_get vars x ≡ Some i → HasSort e.before i.sort i.value (v x)
  pub given : (x : ℕ) (u : Value) → slice_get e.arguments x ≡ Some u → (x < length vars) × (v x ≡ u)
  pub true_of : Each (IsTrueUnder v) pure
  pub placed : Placed v atoms
  pub apart : AreApart (heap_of v atoms) rest
  pub begins : e.before ≡ join (heap_of v pre) rest

-- ---- some of the atoms

module _ (v : Valuation) where
  cons_none : (q : Bool) (a : Atom) (x : Option Atom) → option_map (block_of v) (cond q (Some a) x) ≡ None → (q ≡ false) × (option_map (block_of v) x ≡ None)
  cons_none true a x e = absent (sym e)
  cons_none false a x e = (refl, e)

  pub filter_within : (test : Atom → Bool) (xs : List Atom) (n : ℕ) → heap_of v xs n ≡ None → heap_of v (filter test xs) n ≡ None
  filter_within test [] n out = refl
  filter_within test (a ∷ xs) n out =
      let (other, inner) = cons_none (is_block n (v a.place.0)) a (atom_at v xs n) out in by (test a) other (filter_within test xs n inner)
    where
      by : (q : Bool) → is_block n (v a.place.0) ≡ false → heap_of v (filter test xs) n ≡ None → heap_of v (cond q (a ∷ filter test xs) (filter test xs)) n ≡ None
      by true other e = ap (λ b. option_map (block_of v) (cond b (Some a) (atom_at v (filter test xs) n))) other ∙ e
      by false other e = e

  pub placed_filter : (test : Atom → Bool) (xs : List Atom) → Placed v xs → Placed v (filter test xs)
  placed_filter test [] p = tt
  placed_filter test (a ∷ xs) (n, at, out, p) = by (test a) (placed_filter test xs p)
    where
      by : (q : Bool) → Placed v (filter test xs) → Placed v (cond q (a ∷ filter test xs) (filter test xs))
      by true r = (n, at, filter_within test xs n out, r)
      by false r = r

  placed_back : (xs ys : List Atom) → same_blocks xs ys ≡ true → Placed v ys → Placed v xs
  placed_back [] [] e p = tt
  placed_back [] (b ∷ ys) e p = cc
  placed_back (a ∷ xs) [] e p = cc
  placed_back (a ∷ xs) (b ∷ ys) e (n, at, out, p) =
      let (place, block, rest) = same_head v a b xs ys e in (n, ap v place ∙ at, (alike v xs ys rest n).1 out, placed_back xs ys rest p)

-- a number that stands among the places of some atoms is the place of one
abbrev pub IsPlaceIn : List Atom → ℕ → Type 0
IsPlaceIn xs x = (i : ℕ) × (a : Atom) × (slice_get xs i ≡ Some a) × (a.place.0 ≡ x)

place_among : (test : Atom → Bool) (xs : List Atom) (x k : ℕ) → times x (map (λ (a : Atom). a.place.0) (filter test xs)) ≡ suc k → IsPlaceIn xs x
place_among test [] x k e = absurd (let f : ⊥ = omega (arith, e) in f)
place_among test (a ∷ xs) x k e = by (test a) (λ e. let (i, b, at, is) = place_among test xs x k e in (suc i, b, at, is)) e
  where
    here : (q : Bool) → (times x (map (λ (a : Atom). a.place.0) (filter test xs)) ≡ suc k → IsPlaceIn (a ∷ xs) x) → nat_eq x a.place.0 ≡ q →
        cond q (1 + times x (map (λ (a : Atom). a.place.0) (filter test xs))) (times x (map (λ (a : Atom). a.place.0) (filter test xs))) ≡ suc k → IsPlaceIn (a ∷ xs) x
    here true later is e = (0, a, refl, sym (eqb-true x a.place.0 is))
    here false later is e = later e

    by : (q : Bool) → (times x (map (λ (a : Atom). a.place.0) (filter test xs)) ≡ suc k → IsPlaceIn (a ∷ xs) x) →
        times x (map (λ (a : Atom). a.place.0) (cond q (a ∷ filter test xs) (filter test xs))) ≡ suc k → IsPlaceIn (a ∷ xs) x
    by true later e = here (nat_eq x a.place.0) later refl e
    by false later e = later e

made_sort_is : (s : Sort) → s ≡ sort.Made → is_made_sort s ≡ true
made_sort_is s e = ap is_made_sort e

-- ---- what follows for a state whose entries are regular, by these conjuncts or others

module _ (types : List BlockType) (parameters : List ValueType) (vars : List VarInfo) (pure says : List Conj) (pre atoms : List Atom) (good : Each (GoodAtom types vars pure) atoms) (complete : Complete types parameters vars pure pre atoms)
    (e : Execution) (v : Valuation) (rest : HeapMap) (stands : Stands e v rest vars says pre atoms) where
  -- what was found is among the atoms
  pub found_within : (n : ℕ) → heap_of v atoms n ≡ None → heap_of v pre n ≡ None
  found_within n out = (alike v pre (found_atoms vars atoms) complete.blocks n).1 (filter_within v (λ (a : Atom). not (is_made vars a.place.0)) atoms n out)

  pub found_placed : Placed v pre
  found_placed = placed_back v pre (found_atoms vars atoms) complete.blocks (placed_filter v (λ (a : Atom). not (is_made vars a.place.0)) atoms stands.placed)

  -- a block that wasn't met is as it was
  pub not_met : (n : ℕ) → heap_of v atoms n ≡ None → e.before n ≡ rest n
  not_met n out = at_heap n stands.begins ∙ join_lacks (heap_of v pre) rest n (found_within n out)

  -- the block of a made variable is that of an atom
  pub made_atom : (x : ℕ) (i : VarInfo) → slice_get vars x ≡ Some i → is_made_sort i.sort ≡ true → (k : ℕ) × (a : Atom) × (slice_get atoms k ≡ Some a) × (a.place.0 ≡ x) × (i.value ≡ Pointer a.block)
  made_atom x i at m =
      let (k, a, got, is) = place_among (λ (b : Atom). is_made vars b.place.0) atoms x 0 (complete.made x i at m) in
      let g : GoodAtom types vars pure a = each_get (GoodAtom types vars pure) atoms k a good got in
      let (j, at', same) = variable_is vars (λ (z : VarInfo). same_type z.value (Pointer a.block)) a.place.0 g.points in
      let one : j ≡ i = same_Some _ _ (sym at' ∙ ap (slice_get vars) is ∙ at) in
      (k, a, got, is, ap (λ (z : VarInfo). z.value) (sym one) ∙ same_is j.value (Pointer a.block) same)

  made_own : (x y : ℕ) (i j : VarInfo) (n : ℕ) → slice_get vars x ≡ Some i → slice_get vars y ≡ Some j → is_made_sort i.sort ≡ true → is_made_sort j.sort ≡ true → v x ≡ value.Block n → v y ≡ value.Block n → x ≡ y
  made_own x y i j n at at' m m' h h' =
      let (k, a, got, is, _) = made_atom x i at m in
      let (l, b, got', is', _) = made_atom y j at' m' in
      let same : k ≡ l = one_block v atoms k l a b n stands.placed got got' (ap v is ∙ h) (ap v is' ∙ h') in
      let one : a ≡ b = same_Some _ _ (sym got ∙ ap (slice_get atoms) same ∙ got') in
      sym is ∙ ap (λ (z : Atom). z.place.0) one ∙ is'

  block_of_sort : (x : ℕ) (i : VarInfo) → slice_get vars x ≡ Some i → is_made_sort i.sort ≡ true → (n : ℕ) × (v x ≡ value.Block n)
  block_of_sort x i at m = by i.sort m (stands.sorts x i at)
    where
      by : (s : Sort) → is_made_sort s ≡ true → HasSort e.before s i.value (v x) → (n : ℕ) × (v x ≡ value.Block n)
      by sort.Given m h = absurd (let f : false ≡ true = m in cc)
      by sort.Cell m h = absurd (let f : false ≡ true = m in cc)
      by sort.Input m h = absurd (let f : false ≡ true = m in cc)
      by sort.Made m (n, b, is, at, out) = (n, at)

  -- a made block is that of no other variable
  apart_made : (x y : ℕ) (i j : VarInfo) → slice_get vars x ≡ Some i → slice_get vars y ≡ Some j → is_made_sort i.sort ≡ true → x ≢ y → v x ≢ v y
  apart_made x y i j at at' m other same =
      let (n, here) = block_of_sort x i at m in by n here (is_made_sort j.sort) refl
    where
      by : (n : ℕ) → v x ≡ value.Block n → (q : Bool) → is_made_sort j.sort ≡ q → ⊥
      by n here true m' = other (made_own x y i j n at at' m m' here (sym same ∙ here))
      by n here false m' =
          let (b, is, typed) = sort_block e.before j.sort j.value (v y) n (stands.sorts y j at') m' (sym same ∙ here) in
          has_type_not_none b.0 (e.before n) typed (made_out e.before i.sort i.value (v x) n (stands.sorts x i at) m here)

  one_type : (x y : ℕ) (i j : VarInfo) (s t : TypeId) (n : ℕ) → slice_get vars x ≡ Some i → slice_get vars y ≡ Some j → i.value ≡ Pointer s → j.value ≡ Pointer t → v x ≡ value.Block n → v y ≡ value.Block n → s ≡ t
  one_type x y i j s t n at at' is is' here here' = by (is_made_sort i.sort) (is_made_sort j.sort) refl refl
    where
      by : (p q : Bool) → is_made_sort i.sort ≡ p → is_made_sort j.sort ≡ q → s ≡ t
      by true true m m' =
          let same : x ≡ y = made_own x y i j n at at' m m' here here' in
          let one : i ≡ j = same_Some _ _ (sym at ∙ ap (slice_get vars) same ∙ at') in
          pointer_is (sym is ∙ ap (λ (z : VarInfo). z.value) one ∙ is')
      by true false m m' =
          let (b, _, typed) = sort_block e.before j.sort j.value (v y) n (stands.sorts y j at') m' here' in
          absurd (has_type_not_none b.0 (e.before n) typed (made_out e.before i.sort i.value (v x) n (stands.sorts x i at) m here))
      by false true m m' =
          let (b, _, typed) = sort_block e.before i.sort i.value (v x) n (stands.sorts x i at) m here in
          absurd (has_type_not_none b.0 (e.before n) typed (made_out e.before j.sort j.value (v y) n (stands.sorts y j at') m' here'))
      by false false m m' =
          let (b, p, typed) = sort_block e.before i.sort i.value (v x) n (stands.sorts x i at) m here in
          let (c, q, typed') = sort_block e.before j.sort j.value (v y) n (stands.sorts y j at') m' here' in
          let same : b.0 ≡ c.0 = same_block_type b.0 c.0 (e.before n) typed typed' in
          pointer_is (sym is ∙ p) ∙ ap (λ n. let z : TypeId = record { 0 = n } in z) same ∙ sym (pointer_is (sym is' ∙ q))

  pub stands_fits : Fits vars v
  stands_fits = record {
    sorts = λ x i at. sort_fits e.before i.sort i.value (v x) (stands.sorts x i at);
    made = λ x y i j at at' m other. apart_made x y i j at at' (made_sort_is i.sort m) other;
    types = λ x y i j s t n at at' is is' here here'. one_type x y i j s t n at at' is is' here here';
  }
