-- The contents and blocks of a callee's entry, read by its caller, are what they are to the callee.
use Rattle.std.proofs.Common.{◌≡◌, ◌≢◌, ℕ, zero, suc, Bool, true, false, cond, nat_eq, Option, Some, None, List, [], ◌∷◌, map, slice_get, inl, inr, refl, sym, ap, ap₂, ◌∙◌}
use Rattle.std.specs.List.{list_all}
use Rattle.std.proofs.lemmas.Option.{same_Some}
use mathlib.Core.Path.{fun_ext}
use Rattle.px_terms.specs.Words.{signed}
use Rattle.px_terms.specs.Polynomials.{Polynomial}
use Rattle.px_terms.specs.Variables.{variables_of}
use Rattle.px_terms.specs.Substitutions.{content_for, substitution_of}
use Rattle.px_terms.specs.Valuations.{Valuation, IsWord, IsPlace, Fits}
use Rattle.px_terms.specs.Conjuncts.{place_of, IsTrueUnder}
use Rattle.px_terms.specs.declared.types.Value.{Value}
use Rattle.px_terms.specs.declared.types.Value.TheVariants as value
use Rattle.px_terms.specs.declared.variables.VarInfo.{VarInfo}
use Rattle.px_terms.specs.declared.conjuncts.Place.TheVariants as place
use Rattle.px_terms.specs.declared.conjuncts.Content.{Content}
use Rattle.px_terms.specs.declared.conjuncts.Content.TheVariants.{Unwritten, Word, Place, Cell}
use Rattle.px_terms.specs.declared.conjuncts.Conj.{Conj}
use Rattle.px_entry.specs.declared.atoms.Atom.{Atom}
use Rattle.px_entry.specs.declared.atoms.AtomState.{AtomState}
use Rattle.px_entry.specs.declared.atoms.AtomState.TheVariants.{Live, Freed}
use Rattle.px_entry.specs.Regular.{state_cells}
use Rattle.px_entry.specs.Standing.{content_value, contents_value}
use Rattle.px_entry.proofs.Lists.{Each, each_to}
use Rattle.px_callgraph.specs.Accesses.{with_state, set_atom}
use Rattle.px_callgraph.specs.Renaming.{Substitution, is_word, word_through, place_in, or_unwritten, content_through, state_through}
use Rattle.px_callgraph.specs.Calls.{update_atoms}
use Rattle.px_meaning.specs.Heaps as heap
use Rattle.px_meaning.specs.Heaps.{HeapMap, HeapBlock, or_else, join, with_block}
use Rattle.px_meaning.specs.Triples.{state_of, block_of, heap_of}
use Rattle.px_meaning.proofs.Joins.{with_join, same_or_other}
use Rattle.px_soundness.proofs.WellFormed.{Good}
use Rattle.px_soundness.proofs.AtomHeaps.{Placed, Within, none_not_some, heap_cons, changed, placed_set}
use Rattle.px_soundness.proofs.Contents.{good_place}
use Rattle.px_soundness.proofs.Through.{stood, through, GoodSubstitution, good_for, word_is}

-- ---- contents

-- the variables by which a content is a word or a place have such values
abbrev pub HasKind : Valuation → Content → Type 0
HasKind w Unwritten = Unit {0}
HasKind w (Word p) = Each (λ y. IsWord (w y)) (variables_of p)
HasKind w (Place a) = IsPlace (place_of w a)
HasKind w (Cell y) = Unit {0}

pub no_both : (u : Value) → IsPlace u → IsWord u → ⊥
no_both (value.Word z) p q = p
no_both value.Null p q = q
no_both (value.Block n) p q = q
no_both value.Unwritten p q = p

module _ (vars : List VarInfo) (pure : List Conj) (v : Valuation) (fits : Fits vars v) (true_of : Each (IsTrueUnder v) pure) (σ : Substitution) (good : GoodSubstitution vars pure v fits σ) where
  stands_word : (o : Option Content) → ((c : Content) → o ≡ Some c → Good vars pure c) → IsWord (stood v o) → is_word o ≡ true
  stands_word None g h = absurd h
  stands_word (Some Unwritten) g h = absurd h
  stands_word (Some (Word p)) g h = refl
  stands_word (Some (Place a)) g h = absurd (no_both (place_of v a) (good_place vars pure v a fits true_of (g (Place a) refl)) h)
  stands_word (Some (Cell y)) g h = refl

  cell_is : (o : Option Content) → content_value v (or_unwritten o (λ c. c)) ≡ stood v o
  cell_is None = refl
  cell_is (Some c) = refl

  variable_is_place : (o : Option Content) → IsPlace (stood v o) → content_value v (or_unwritten (place_in o) Place) ≡ stood v o
  variable_is_place None h = refl
  variable_is_place (Some Unwritten) h = refl
  variable_is_place (Some (Word p)) h = absurd h
  variable_is_place (Some (Place a)) h = refl
  variable_is_place (Some (Cell y)) h = refl

  word_content : (p : Polynomial) → Each (λ y. IsWord (through v σ y)) (variables_of p) → content_value v (content_through σ (Word p)) ≡ content_value (through v σ) (Word p)
  word_content p h = by (list_all (λ y. is_word (content_for σ y)) (variables_of p)) all
    where
      all : list_all (λ y. is_word (content_for σ y)) (variables_of p) ≡ true
      all = each_to (λ y. is_word (content_for σ y)) (λ y. IsWord (through v σ y)) (λ y k. stands_word (content_for σ y) (good_for vars pure v fits σ good y) k) (variables_of p) h

      some : word_through σ p ≡ Some (substitution_of σ p)
      some = ap (λ b. elim b as (λ _. Option Polynomial) [ true ↦ Some (substitution_of σ p) | false ↦ None ]) all

      by : (b : Bool) → b ≡ true → content_value v (or_unwritten (elim b as (λ _. Option Polynomial) [ true ↦ Some (substitution_of σ p) | false ↦ None ]) Word) ≡ content_value (through v σ) (Word p)
      by true e = ap (λ n. value.Word (signed n)) (word_is vars pure v fits σ good p (substitution_of σ p) some)
      by false e = cc

  pub content_is : (c : Content) → HasKind (through v σ) c → content_value v (content_through σ c) ≡ content_value (through v σ) c
  content_is Unwritten h = refl
  content_is (Word p) h = word_content p h
  content_is (Place place.Null) h = refl
  content_is (Place (place.Var y)) h = variable_is_place (content_for σ y.0) h
  content_is (Cell y) h = cell_is (content_for σ y.0)

  contents_are : (cs : List Content) → Each (HasKind (through v σ)) cs → contents_value v (map (content_through σ) cs) ≡ contents_value (through v σ) cs
  contents_are [] h = refl
  contents_are (c ∷ cs) h = ap₂ (λ u (us : List Value). u ∷ us) (content_is c h.0) (contents_are cs h.1)

  pub state_is : (st : AtomState) → Each (HasKind (through v σ)) (state_cells st) → state_of v (state_through σ st) ≡ state_of (through v σ) st
  state_is (Live cells) h = ap heap.Live (contents_are cells h)
  state_is Freed h = refl

  -- ---- blocks that change

  -- each of these atoms of the callee stands at the block of the caller's atom with such a number
  abbrev pub AreAt : List Atom → List ℕ → List Atom → Type 0
  AreAt atoms [] [] = Unit {0}
  AreAt atoms [] (b ∷ posts) = ⊥
  AreAt atoms (n ∷ used) [] = ⊥
  AreAt atoms (n ∷ used) (b ∷ posts) = ((a : Atom) × (slice_get atoms n ≡ Some a) × (v a.place.0 ≡ through v σ b.place.0) × (a.block.0 ≡ b.block.0)) × AreAt atoms used posts

  pub placed_update : (used : List ℕ) (posts atoms : List Atom) → Placed v (update_atoms σ used posts atoms) → Placed v atoms × Within (heap_of v atoms) (heap_of v (update_atoms σ used posts atoms))
  placed_update [] posts atoms p = (p, λ n out. out)
  placed_update (n ∷ used) [] atoms p = (p, λ n out. out)
  placed_update (n ∷ used) (b ∷ posts) atoms p =
      let (q, within) = placed_update used posts (set_atom n (state_through σ b.state) atoms) p in
      let (r, first) = placed_set v atoms n (state_through σ b.state) q in
      (r, λ m out. first m (within m out))

  get_other : (atoms : List Atom) (n m : ℕ) (st : AtomState) → n ≢ m → slice_get (set_atom n st atoms) m ≡ slice_get atoms m
  get_other [] n m st d = refl
  get_other (a ∷ rest) zero zero st d = absurd (d refl)
  get_other (a ∷ rest) zero (suc m) st d = refl
  get_other (a ∷ rest) (suc n) zero st d = refl
  get_other (a ∷ rest) (suc n) (suc m) st d = get_other rest n m st (λ e. d (ap suc e))

  -- an atom that isn't at the block of any of these stays one of which they don't speak
  still_at : (atoms : List Atom) (n m : ℕ) (a : Atom) (st : AtomState) → slice_get atoms n ≡ Some a → v a.place.0 ≡ value.Block m → (used : List ℕ) (posts : List Atom) →
      Placed (through v σ) posts → heap_of (through v σ) posts m ≡ None → AreAt atoms used posts → AreAt (set_atom n st atoms) used posts
  still_at atoms n m a st e at [] [] p out h = tt
  still_at atoms n m a st e at [] (b ∷ posts) p out h = h
  still_at atoms n m a st e at (k ∷ used) [] p out h = h
  still_at atoms n m a st e at (k ∷ used) (b ∷ posts) (i, place, none, p) out ((c, is, same, block), h) =
      let cons : heap_of (through v σ) (b ∷ posts) ≡ with_block (heap_of (through v σ) posts) i (block_of (through v σ) b) = heap_cons (through v σ) b posts i place in
      let other : m ≢ i = λ f. none_not_some (heap_of (through v σ) (b ∷ posts) m) (block_of (through v σ) b) out (ap (λ (g : HeapMap). g m) cons ∙ here (heap_of (through v σ) posts) m i (block_of (through v σ) b) f) in
      let differs : n ≢ k = λ f. other (number (sym at ∙ ap (λ (z : Atom). v z.place.0) (same_Some _ _ (sym e ∙ ap (slice_get atoms) f ∙ is)) ∙ same ∙ place)) in
      ((c, get_other atoms n k st differs ∙ is, same, block), still_at atoms n m a st e at used posts p (rest_none (heap_of (through v σ) posts) m i (block_of (through v σ) b) other (sym (ap (λ (g : HeapMap). g m) cons) ∙ out)) h)
    where
      number : {p q : ℕ} → value.Block p ≡ value.Block q → p ≡ q
      number e = cc

      here : (g : HeapMap) (p q : ℕ) (c : HeapBlock) → p ≡ q → with_block g q c p ≡ Some c
      here g p q c e = elim (same_or_other p q) [ inl h ↦ ap (λ b. cond b (Some c) (g p)) h.1 | inr h ↦ absurd (h.0 e) ]

      rest_none : (g : HeapMap) (p q : ℕ) (c : HeapBlock) → p ≢ q → with_block g q c p ≡ None → g p ≡ None
      rest_none g p q c d e = elim (same_or_other p q) [ inl h ↦ absurd (d h.0) | inr h ↦ sym (ap (λ b. cond b (Some c) (g p)) h.1) ∙ e ]

  after_if : (q : Bool) (b : HeapBlock) (x y : Option HeapBlock) → (q ≡ true → x ≡ None) → or_else x (cond q (Some b) y) ≡ cond q (Some b) (or_else x y)
  after_if true b x y h = ap (λ o. or_else o (Some b)) (h refl)
  after_if false b x y h = refl

  -- a write after blocks that have none with its number
  write_after : (one other : HeapMap) (m : ℕ) (b : HeapBlock) → one m ≡ None → join one (with_block other m b) ≡ with_block (join one other) m b
  write_after one other m b out = fun_ext (λ n. after_if (nat_eq n m) b (one n) (other n) (λ e. by n e))
    where
      by : (n : ℕ) → nat_eq n m ≡ true → one n ≡ None
      by n e = elim (same_or_other n m) [ inl h ↦ ap one h.0 ∙ out | inr h ↦ absurd (let f : true ≡ false = sym e ∙ h.1 in cc) ]

  same_heap_block : (a b : Atom) → a.block.0 ≡ b.block.0 → Each (HasKind (through v σ)) (state_cells b.state) → block_of v (with_state (state_through σ b.state) a) ≡ block_of (through v σ) b
  same_heap_block a b e h = ap₂ (λ t (st : heap.HeapBlockState). record { block_type = t; state = st }) e (state_is b.state h)

  -- the blocks are as the callee leaves them, and all others as they were
  pub update_is : (used : List ℕ) (posts atoms : List Atom) → Placed v (update_atoms σ used posts atoms) → Placed (through v σ) posts → AreAt atoms used posts →
      Each (λ (b : Atom). Each (HasKind (through v σ)) (state_cells b.state)) posts → heap_of v (update_atoms σ used posts atoms) ≡ join (heap_of (through v σ) posts) (heap_of v atoms)
  update_is [] [] atoms p q h k = refl
  update_is [] (b ∷ posts) atoms p q h k = absurd h
  update_is (n ∷ used) [] atoms p q h k = absurd h
  update_is (n ∷ used) (b ∷ posts) atoms p (m, place, out, q) ((a, is, same, block), h) k =
      let st : AtomState = state_through σ b.state in
      let now : List Atom = set_atom n st atoms in
      let placed_now : Placed v now = (placed_update used posts now p).0 in
      let placed : Placed v atoms = (placed_set v atoms n st placed_now).0 in
      let at : v a.place.0 ≡ value.Block m = same ∙ place in
      let B : HeapBlock = block_of (through v σ) b in
      update_is used posts now p q (still_at atoms n m a st is at used posts q out h) k.1
      ∙ ap (join (heap_of (through v σ) posts)) (changed v atoms n a m st placed is at ∙ ap (with_block (heap_of v atoms) m) (same_heap_block a b block k.0))
      ∙ write_after (heap_of (through v σ) posts) (heap_of v atoms) m B out
      ∙ with_join (heap_of (through v σ) posts) (heap_of v atoms) m B
      ∙ ap (λ g. join g (heap_of v atoms)) (sym (heap_cons (through v σ) b posts m place))
