-- A call by an entry of the callee whose required blocks are met: the callee takes the caller's whole heap as the entry
-- says, and leaves the caller's blocks as the call leaves them.
use Rattle.std.proofs.Common.{◌≡◌, ◌≢◌, ◌⊎◌, ℕ, zero, suc, true, cond, Option, Some, None, List, [], ◌∷◌, ◌++◌, slice_get, inl, inr, refl, sym, ap, ap₂, ◌∙◌, subst}
use Rattle.std.specs.Prelude.{flat_map}
use Rattle.std.proofs.lemmas.Option.{same_Some}
use Rattle.px_terms.specs.Valuations.{Valuation, Fits}
use Rattle.px_terms.specs.Conjuncts.{IsTrueUnder}
use Rattle.px_terms.specs.declared.types.Value.TheVariants as value
use Rattle.px_terms.specs.declared.variables.VarInfo.{VarInfo}
use Rattle.px_terms.specs.declared.conjuncts.Conj.{Conj}
use Rattle.px_entry.specs.declared.atoms.Atom.{Atom}
use Rattle.px_entry.specs.declared.entries.Entry.{Entry}
use Rattle.px_entry.specs.Constraint.{found_atoms, made_atoms, separate, constraint_of}
use Rattle.px_entry.specs.Regular.{same_blocks, state_cells}
use Rattle.px_entry.specs.Satisfied.{Satisfies}
use Rattle.px_entry.proofs.Lists.{Each, each_append, each_all}
use Rattle.px_callgraph.specs.Renaming.{Substitution}
use Rattle.px_callgraph.specs.Calls.{update_atoms, made_through}
use Rattle.px_meaning.specs.Heaps.{HeapMap, HeapBlock, or_else, with_block, join, AreApart}
use Rattle.px_meaning.specs.Calls.{Calls}
use Rattle.px_meaning.specs.Triples.{block_of, heap_of, values_from, ending_of, IsTaken, IsValid}
use Rattle.px_soundness.proofs.AtomHeaps.{Placed, Within, absent, none_not_some, at_heap, heap_cons, heap_append, there, place_of, placed_from, placed_front, back_none}
use Rattle.px_soundness.proofs.Through.{through, GoodSubstitution}
use Rattle.px_soundness.proofs.CallFrames.{minus, before_call, apart_call, after_call, AreAlike}
use Rattle.px_soundness.proofs.EntryHeaps.{same_head, alike, placed_alike, apart_all_true, post_is}
use Rattle.px_soundness.proofs.ContentsThrough.{HasKind, AreAt, placed_update, update_is}
use Rattle.px_meaning.proofs.Joins.{same_or_other}

-- ---- blocks of atoms

pub one_block : (v : Valuation) (atoms : List Atom) (n k : ℕ) (a c : Atom) (m : ℕ) → Placed v atoms → slice_get atoms n ≡ Some a → slice_get atoms k ≡ Some c → v a.place.0 ≡ value.Block m → v c.place.0 ≡ value.Block m → n ≡ k
one_block v [] n k a c m p e f at at' = absent e
one_block v (b ∷ rest) zero zero a c m p e f at at' = refl
one_block v (b ∷ rest) zero (suc k) a c m (i, place, out, p) e f at at' =
    absurd (none_not_some (heap_of v rest i) (block_of v c) out (subst (λ z. heap_of v rest z ≡ Some (block_of v c)) (number (sym at ∙ ap (λ (z : Atom). v z.place.0) (sym (same_Some _ _ e)) ∙ place)) (there v rest k c m p f at')))
  where
    number : {p q : ℕ} → value.Block p ≡ value.Block q → p ≡ q
    number e = cc
one_block v (b ∷ rest) (suc n) zero a c m (i, place, out, p) e f at at' =
    absurd (none_not_some (heap_of v rest i) (block_of v a) out (subst (λ z. heap_of v rest z ≡ Some (block_of v a)) (number (sym at' ∙ ap (λ (z : Atom). v z.place.0) (sym (same_Some _ _ f)) ∙ place)) (there v rest n a m p e at)))
  where
    number : {p q : ℕ} → value.Block p ≡ value.Block q → p ≡ q
    number e = cc
one_block v (b ∷ rest) (suc n) (suc k) a c m (i, place, out, p) e f at at' = ap suc (one_block v rest n k a c m p e f at at')

-- what stands after in one list has no block of what stands before
apart_of : (v : Valuation) (xs ys : List Atom) → Placed v (xs ++ ys) → (n : ℕ) (b : HeapBlock) → heap_of v ys n ≡ Some b → heap_of v xs n ≡ None
apart_of v [] ys p n b e = refl
apart_of v (a ∷ xs) ys (m, at, out, p) n b e =
    let differs : n ≢ m = λ f. none_not_some (heap_of v ys m) b (back_none (heap_of v xs) (heap_of v ys) m (sym (at_heap m (heap_append v xs ys)) ∙ out)) (subst (λ z. heap_of v ys z ≡ Some b) f e) in
    at_heap n (heap_cons v a xs m at) ∙ other (heap_of v xs) m n (block_of v a) differs ∙ apart_of v xs ys p n b e
  where
    other : (h : HeapMap) (p q : ℕ) (b : HeapBlock) → q ≢ p → with_block h p b q ≡ h q
    other h p q b d = elim (same_or_other q p) [ inl e ↦ absurd (d e.0) | inr e ↦ ap (λ t. cond t (Some b) (h q)) e.1 ]

-- each number is another
abbrev pub AreDistinct : List ℕ → Type 0
AreDistinct [] = Unit {0}
AreDistinct (n ∷ ns) = Each (λ m. n ≢ m) ns × AreDistinct ns

module _ (v w : Valuation) where
  -- the required block is that of the caller's atom with this number
  abbrev pub IsMet : List Atom → ℕ → Atom → Type 0
  IsMet atoms n p = (a : Atom) × (slice_get atoms n ≡ Some a) × (v a.place.0 ≡ w p.place.0) × (a.block.0 ≡ p.block.0) × (block_of v a ≡ block_of w p)

  abbrev pub AreMet : List Atom → List ℕ → List Atom → Type 0
  AreMet atoms [] [] = Unit {0}
  AreMet atoms [] (p ∷ pre) = ⊥
  AreMet atoms (n ∷ used) [] = ⊥
  AreMet atoms (n ∷ used) (p ∷ pre) = IsMet atoms n p × AreMet atoms used pre

  module _ (atoms : List Atom) (placed : Placed v atoms) where
    -- a required block stands in the caller's heap, as it is required
    required_there : (used : List ℕ) (pre : List Atom) → AreMet atoms used pre → Placed w pre → (n : ℕ) (b : HeapBlock) → heap_of w pre n ≡ Some b → heap_of v atoms n ≡ Some b
    required_there [] [] met q n b e = absent e
    required_there [] (p ∷ pre) met q n b e = absurd met
    required_there (k ∷ used) [] met q n b e = absent e
    required_there (k ∷ used) (p ∷ pre) ((a, is, same, block, alike'), met) (m, at, out, q) n b e = elim (same_or_other n m) [
      | inl f ↦ subst (λ z. heap_of v atoms z ≡ Some b) (sym f.0)
          (there v atoms k a m placed is (same ∙ at) ∙ ap Some alike' ∙ sym (ap (λ t. cond t (Some (block_of w p)) (heap_of w pre n)) f.1) ∙ sym (at_heap n (heap_cons w p pre m at)) ∙ e)
      | inr f ↦ required_there used pre met q n b (sym (ap (λ t. cond t (Some (block_of w p)) (heap_of w pre n)) f.1) ∙ sym (at_heap n (heap_cons w p pre m at)) ∙ e)
    ]

    none_other : (k m : ℕ) (a : Atom) → slice_get atoms k ≡ Some a → v a.place.0 ≡ value.Block m → (used : List ℕ) (pre : List Atom) → Each (λ i. k ≢ i) used → AreMet atoms used pre → heap_of w pre m ≡ None
    none_other k m a is at [] [] d met = refl
    none_other k m a is at [] (p ∷ pre) d met = absurd met
    none_other k m a is at (i ∷ used) [] d met = absurd met
    none_other k m a is at (i ∷ used) (p ∷ pre) d ((c, is', same, block, alike'), met) =
        let (n, at') = place_of v atoms i c placed is' in
        let differs : m ≢ n = λ e. d.0 (one_block v atoms k i a c m placed is is' at (at' ∙ ap value.Block (sym e))) in
        at_heap m (heap_cons w p pre n (sym same ∙ at')) ∙ other (heap_of w pre) n m (block_of w p) differs ∙ none_other k m a is at used pre d.1 met
      where
        other : (h : HeapMap) (p q : ℕ) (b : HeapBlock) → q ≢ p → with_block h p b q ≡ h q
        other h p q b d = elim (same_or_other q p) [ inl e ↦ absurd (d e.0) | inr e ↦ ap (λ t. cond t (Some b) (h q)) e.1 ]

    met_placed : (used : List ℕ) (pre : List Atom) → AreDistinct used → AreMet atoms used pre → Placed w pre
    met_placed [] [] d met = tt
    met_placed [] (p ∷ pre) d met = absurd met
    met_placed (k ∷ used) [] d met = tt
    met_placed (k ∷ used) (p ∷ pre) d ((a, is, same, block, alike'), met) =
        let (m, at) = place_of v atoms k a placed is in
        (m, sym same ∙ at, none_other k m a is at used pre d.0 met, met_placed used pre d.1 met)

-- what is found stands at the same places as what is required
at_found : (v : Valuation) (σ : Substitution) (vars : List VarInfo) (pure : List Conj) (fits : Fits vars v) (true_of : Each (IsTrueUnder v) pure) (good : GoodSubstitution vars pure v fits σ) (atoms : List Atom) (used : List ℕ) (pre posts : List Atom) →
    same_blocks pre posts ≡ true → AreMet v (through v σ) atoms used pre → AreAt vars pure v fits true_of σ good atoms used posts
at_found v σ vars pure fits true_of good atoms [] [] [] e met = tt
at_found v σ vars pure fits true_of good atoms [] [] (b ∷ posts) e met = cc
at_found v σ vars pure fits true_of good atoms [] (p ∷ pre) posts e met = absurd met
at_found v σ vars pure fits true_of good atoms (n ∷ used) [] posts e met = absurd met
at_found v σ vars pure fits true_of good atoms (n ∷ used) (p ∷ pre) [] e met = cc
at_found v σ vars pure fits true_of good atoms (n ∷ used) (p ∷ pre) (b ∷ posts) e ((a, is, same, block, alike'), met) =
    let (place, type, rest) = heads p b pre posts e in
    ((a, is, same ∙ ap (through v σ) place, block ∙ type), at_found v σ vars pure fits true_of good atoms used pre posts rest met)
  where
    heads : (a b : Atom) (xs ys : List Atom) → same_blocks (a ∷ xs) (b ∷ ys) ≡ true → (a.place.0 ≡ b.place.0) × (a.block.0 ≡ b.block.0) × (same_blocks xs ys ≡ true)
    heads = same_head (through v σ)

-- ---- the call

module _ (vars : List VarInfo) (pure : List Conj) (v : Valuation) (fits : Fits vars v) (true_of : Each (IsTrueUnder v) pure) (σ : Substitution) (good : GoodSubstitution vars pure v fits σ)
    (x : Entry) (fit : Fits x.vars (through v σ)) (pure_of : Each (IsTrueUnder (through v σ)) x.pure) (blocks : same_blocks x.pre (found_atoms x.vars x.post) ≡ true)
    (kinds : Each (λ (b : Atom). Each (HasKind (through v σ)) (state_cells b.state)) (found_atoms x.vars x.post))
    (atoms : List Atom) (used : List ℕ) (distinct : AreDistinct used) (met : AreMet v (through v σ) atoms used x.pre)
    (made_is : heap_of v (flat_map (made_through σ) (made_atoms x.vars x.post)) ≡ heap_of (through v σ) (made_atoms x.vars x.post))
    (further : HeapMap)
    (placed : Placed v (update_atoms σ used (found_atoms x.vars x.post) atoms ++ flat_map (made_through σ) (made_atoms x.vars x.post)))
    (apart : AreApart (heap_of v (update_atoms σ used (found_atoms x.vars x.post) atoms ++ flat_map (made_through σ) (made_atoms x.vars x.post))) further) where
  abbrev w : Valuation
  w = through v σ

  abbrev found : List Atom
  found = found_atoms x.vars x.post

  abbrev changed_atoms : List Atom
  changed_atoms = update_atoms σ used found atoms

  abbrev new_atoms : List Atom
  new_atoms = flat_map (made_through σ) (made_atoms x.vars x.post)

  placed_changed : Placed v changed_atoms
  placed_changed = placed_front v changed_atoms new_atoms placed

  placed_atoms : Placed v atoms × Within (heap_of v atoms) (heap_of v changed_atoms)
  placed_atoms = placed_update vars pure v fits true_of σ good used found atoms placed_changed

  placed_pre : Placed w x.pre
  placed_pre = met_placed v w atoms placed_atoms.0 used x.pre distinct met

  placed_found : Placed w found
  placed_found = placed_alike w x.pre found blocks placed_pre

  satisfies : Satisfies w x
  satisfies = record {
    fits = fit;
    true_of = each_all (IsTrueUnder w) (constraint_of x.vars x.pure x.post) (each_append (IsTrueUnder w) x.pure (separate x.vars x.post) pure_of (apart_all_true w [] found placed_found));
  }

  -- new blocks are none of the caller's, nor of the further heap
  both_parts : AreApart (heap_of w (made_atoms x.vars x.post)) (join (heap_of v atoms) further)
  both_parts n = subst (λ (h : HeapMap). (h n ≡ None) ⊎ (join (heap_of v atoms) further n ≡ None)) made_is (by (heap_of v new_atoms n) refl)
    where
      by : (o : Option HeapBlock) → heap_of v new_atoms n ≡ o → (heap_of v new_atoms n ≡ None) ⊎ (join (heap_of v atoms) further n ≡ None)
      by None is = inl is
      by (Some b) is =
          let own : heap_of v changed_atoms n ≡ None = apart_of v changed_atoms new_atoms placed n b is in
          let here : heap_of v atoms n ≡ None = placed_atoms.1 n own in
          inr (ap (λ o. or_else o (further n)) here ∙ elim (apart n) [
            | inl e ↦ absurd (none_not_some (heap_of v new_atoms n) b (back_none (heap_of v changed_atoms) (heap_of v new_atoms) n (sym (at_heap n (heap_append v changed_atoms new_atoms)) ∙ e)) is)
            | inr e ↦ e
          ])

  pub call_taken : (calls : Calls) (parameters : ℕ) → IsValid calls parameters x →
      calls (values_from w 0 parameters) (join (heap_of v atoms) further) x.trace (ending_of w x.exit x.result) (join (heap_of v (changed_atoms ++ new_atoms)) further)
  call_taken calls parameters valid =
      let taken : IsTaken calls parameters x w = valid w satisfies in
      let Pre : HeapMap = heap_of w x.pre in
      let Kept : HeapMap = heap_of w found in
      let Made : HeapMap = heap_of w (made_atoms x.vars x.post) in
      let A : HeapMap = heap_of v atoms in
      let rest : HeapMap = minus (join A further) Pre in
      let post : taken.after ≡ join Kept Made = taken.leaves.1 ∙ post_is w x.vars x.post (placed_from w x.post taken.leaves.0) in
      let same : AreAlike Pre Kept = alike w x.pre found blocks in
      let before : join taken.before rest ≡ join A further = ap (λ h. join h rest) taken.finds.1 ∙ before_call Pre A further (required_there v w atoms placed_atoms.0 used x.pre met placed_pre) in
      let after : join taken.after rest ≡ join (heap_of v (changed_atoms ++ new_atoms)) further =
      ap (λ h. join h rest) post ∙ after_call Pre Kept Made A further same both_parts
      ∙ ap (λ h. join h further)
      (ap₂ (λ g h. join g h) (sym (update_is vars pure v fits true_of σ good used found atoms placed_changed placed_found (at_found v σ vars pure fits true_of good atoms used x.pre found blocks met) kinds)) (sym made_is)
      ∙ sym (heap_append v changed_atoms new_atoms)) in
      let (first, call) = taken.takes rest (subst (λ h. AreApart h rest) (sym post) (apart_call Pre Kept Made A further same both_parts)) in
      subst (λ h. calls (values_from w 0 parameters) (join A further) x.trace (ending_of w x.exit x.result) h) after
      (subst (λ h. calls (values_from w 0 parameters) h x.trace (ending_of w x.exit x.result) (join taken.after rest)) before call)
