-- The state after what an entry says is well-formed, where the states between the choices of the call were.
use Rattle.std.proofs.Common.{◌≡◌, ◌≢◌, ◌⊎◌, ℕ, zero, suc, ◌+◌, ◌<◌, Bool, true, false, not, nat_eq, ◌||◌, ◌&&◌, Option, Some, None, List, [], ◌∷◌, ◌++◌, map, length, slice_get, inl, inr, refl, sym, ap, ap₂, ◌∙◌, subst, arith, append_assoc, append-nil}
use Rattle.std.specs.Prelude.{fold, flat_map}
use Rattle.std.specs.List.{list_all}
use Rattle.std.proofs.lemmas.Bool.{and_parts, eqb-true, or_right}
use Rattle.std.proofs.lemmas.List.Elements.{filter-append}
use Rattle.std.proofs.lemmas.Option.{same_Some, slice_get_within}
use Rattle.px_terms.specs.Types.{types_of}
use Rattle.px_terms.specs.Substitutions.{content_for}
use Rattle.px_terms.specs.declared.types.BlockType.{BlockType}
use Rattle.px_terms.specs.declared.types.ValueType.TheVariants.{Pointer}
use Rattle.px_terms.specs.declared.variables.Var.{Var}
use Rattle.px_terms.specs.declared.variables.VarInfo.{VarInfo}
use Rattle.px_terms.specs.declared.variables.Sort.TheVariants as sort
use Rattle.px_terms.specs.declared.conjuncts.Place.TheVariants as place
use Rattle.px_terms.specs.declared.conjuncts.Content.{Content}
use Rattle.px_terms.specs.declared.conjuncts.Content.TheVariants.{Cell}
use Rattle.px_terms.specs.declared.conjuncts.Conj.{Conj}
use Rattle.px_terms.specs.declared.conjuncts.Conj.TheVariants as conjunct
use Rattle.px_entry.specs.declared.atoms.Atom.{Atom}
use Rattle.px_entry.specs.declared.atoms.AtomState.{AtomState}
use Rattle.px_entry.specs.declared.entries.Entry.{Entry}
use Rattle.px_entry.specs.Sorts.{is_some_and, is_given_sort, is_cell_sort, is_made_sort, same_type, is_cell, is_made, is_well_sorted}
use Rattle.px_entry.specs.Equality.{same_conjunct}
use Rattle.px_entry.specs.Contents.{fits_cell, content_variables, variable_content}
use Rattle.px_entry.specs.Constraint.{found_atoms, made_atoms}
use Rattle.px_entry.specs.Regular.{is_said_written, is_used_written, is_regular, used_by_conjunct, used_by_atom, used_by_result, is_result, points_to_block, fits_state, fits_block, state_cells, cells_of, same_blocks, is_quotient_input}
use Rattle.px_entry.proofs.Lists.{Each, each_append, each_from}
use Rattle.px_callgraph.specs.declared.states.State.{State}
use Rattle.px_callgraph.specs.JobTree.{JobTree}
use Rattle.px_callgraph.specs.States.{given_variables}
use Rattle.px_callgraph.specs.Accesses.{atom_of, set_atom}
use Rattle.px_callgraph.specs.Renaming.{Substitution, place_in, state_through, Claim, surely, never, claims, written_claim, claim_through, assume_claim, new_variables, stand_new}
use Rattle.px_callgraph.specs.Calls.{made_through, update_atoms, stand_all, result_through}
use Rattle.px_callgraph.proofs.SortLemmas.{below_more}
use Rattle.px_soundness.proofs.WellFormed.{is_usable, Good, GoodAtom, OwnPlaces, WellTyped, GoodConj, times, Once, made_places, CompleteAt}
use Rattle.px_soundness.proofs.AtomHeaps.{absent}
use Rattle.px_soundness.proofs.Truths.{variable_is, made_is}
use Rattle.px_soundness.proofs.WellTyped.{Grown, SaysMore, grown_by, assume_more, good_grown, atom_grown, own_grown, set_good, set_own}
use Rattle.px_soundness.proofs.WellTypedSteps.{written_said, other_usable}
use Rattle.px_soundness.proofs.Complete.{times_append, times_none, assume_each, conj_grown, found_grown, reached_grown, found_same, made_same}
use Rattle.px_soundness.proofs.CompleteMoves.{once_grown, none_such, words_more, others_more, places_below, key, keys_set, made_set, same_keys}
use Rattle.px_soundness.proofs.FitsThrough.{Stands, same_is}
use Rattle.px_soundness.proofs.EntryParts.{Parts, parts, given_of, each_filter}
use Rattle.px_soundness.proofs.EntryTypes.{new_types}
use Rattle.px_soundness.proofs.CallTaken.{AreDistinct}
use Rattle.px_soundness.proofs.CallMatches.{found_more, AllMet}
use Rattle.px_soundness.proofs.CallStands.{StandsBefore, IsNewType, new_content, listed_at, stands_all}
use Rattle.px_soundness.proofs.CallStages.{Matched}
use Rattle.px_soundness.proofs.CallReady.{stands_before}
use Rattle.px_soundness.proofs.CallFinish.{done_state}
use Rattle.px_soundness.proofs.CallReads.{GoodClaim, good_content, read_state, good_claim}
use Rattle.px_soundness.proofs.CallPending.{IsPromised, Pending}
use Rattle.px_soundness.proofs.CallMade.{all_new, all_among, new_not_given, new_no_cell, made_new, new_back, number_at, times_number, numbers_after, all_made, are_made, stands_there, places_distinct, own_after, own_distinct, distinct_numbers, found_none}
use Rattle.px_callgraph.proofs.KeepLemmas.{each_weaker}
use Rattle.px_check.proofs.ValueLemmas.{each_split}

-- ---- what the entry says is assumed

module _ (vars : List VarInfo) (σ : Substitution) where
  abbrev pub folded : List Conj → List Conj → List Conj
  folded cs pure = fold (λ ps c. assume_claim vars ps (claim_through σ c)) pure cs

  claim_more : (pure : List Conj) (c : Claim) → SaysMore pure (assume_claim vars pure c)
  claim_more pure surely = λ y e. e
  claim_more pure never = λ y e. e
  claim_more pure (claims c) = assume_more vars pure c

  pub folded_more : (cs pure : List Conj) → SaysMore pure (folded cs pure)
  folded_more [] pure = λ y e. e
  folded_more (c ∷ cs) pure = λ y e. folded_more cs (assume_claim vars pure (claim_through σ c)) y (claim_more pure (claim_through σ c) y e)

  -- a cell that stands for a variable which the entry says to be written is said to be so
  pub folded_said : (cs pure : List Conj) (y : ℕ) (z : Var) → is_said_written cs y ≡ true → content_for σ y ≡ Some (Cell z) → is_said_written (folded cs pure) z.0 ≡ true
  folded_said [] pure y z e is = cc
  folded_said (c ∷ cs) pure y z e is =
      by (same_conjunct (conjunct.Written (record { 0 = y })) c) refl e (λ f. folded_said cs (assume_claim vars pure (claim_through σ c)) y z f is)
    where
      one : (c : Conj) → same_conjunct (conjunct.Written (record { 0 = y })) c ≡ true → is_said_written (assume_claim vars pure (claim_through σ c)) z.0 ≡ true
      one (conjunct.Written w) f = subst (λ o. is_said_written (assume_claim vars pure (written_claim o)) z.0 ≡ true) (sym (ap (content_for σ) (sym (eqb-true y w.0 f)) ∙ is)) (written_said vars pure z)
      one (conjunct.Equal p) f = cc
      one (conjunct.Unequal p) f = cc
      one (conjunct.Less p q) f = cc
      one (conjunct.AtMost p q) f = cc
      one (conjunct.SamePlace a b) f = cc
      one (conjunct.OtherPlace a b) f = cc
      one (conjunct.Unwritten w) f = cc
      one (conjunct.Quotient x p q) f = cc

      by : (q : Bool) → same_conjunct (conjunct.Written (record { 0 = y })) c ≡ q → (q || is_said_written cs y) ≡ true → (is_said_written cs y ≡ true → is_said_written (folded cs (assume_claim vars pure (claim_through σ c))) z.0 ≡ true) →
          is_said_written (folded cs (assume_claim vars pure (claim_through σ c))) z.0 ≡ true
      by true f e rest = folded_more cs (assume_claim vars pure (claim_through σ c)) z.0 (one c f)
      by false f e rest = rest e

  module _ (says : List Conj) where
    claim_each : (pure : List Conj) (c : Claim) → Each (GoodConj vars says) pure → GoodClaim vars says c → Each (GoodConj vars says) (assume_claim vars pure c)
    claim_each pure surely h g = h
    claim_each pure never h g = h
    claim_each pure (claims c) h g = assume_each vars pure c (GoodConj vars says) h g

    pub folded_each : (cs pure : List Conj) → Each (GoodConj vars says) pure → Each (λ c. GoodClaim vars says (claim_through σ c)) cs → Each (GoodConj vars says) (folded cs pure)
    folded_each [] pure h g = h
    folded_each (c ∷ cs) pure h g = folded_each cs (assume_claim vars pure (claim_through σ c)) (claim_each pure (claim_through σ c) h g.0) g.1

-- ---- blocks that were met take the states that the entry leaves them in

-- each atom with such a number is of the block type of its block
abbrev BlocksAt : List Atom → List ℕ → List Atom → Type 0
BlocksAt atoms [] posts = Unit {0}
BlocksAt atoms (n ∷ used) [] = Unit {0}
BlocksAt atoms (n ∷ used) (b ∷ posts) = ((a : Atom) × (slice_get atoms n ≡ Some a) × (a.block.0 ≡ b.block.0)) × BlocksAt atoms used posts

blocks_at : (vars : List VarInfo) (pure : List Conj) (atoms : List Atom) (σ : Substitution) (used : List ℕ) (pre posts : List Atom) → AllMet vars pure atoms σ used pre → same_blocks pre posts ≡ true → BlocksAt atoms used posts
blocks_at vars pure atoms σ [] pre posts h e = tt
blocks_at vars pure atoms σ (n ∷ used) [] posts h e = absurd h
blocks_at vars pure atoms σ (n ∷ used) (p ∷ pre) [] h e = tt
blocks_at vars pure atoms σ (n ∷ used) (p ∷ pre) (b ∷ posts) h e =
    let r = and_parts (nat_eq p.place.0 b.place.0 && nat_eq p.block.0 b.block.0) (same_blocks pre posts) e in
    let q = and_parts (nat_eq p.place.0 b.place.0) (nat_eq p.block.0 b.block.0) r.0 in
    ((h.0.atom, h.0.at, h.0.block ∙ eqb-true p.block.0 b.block.0 q.1), blocks_at vars pure atoms σ used pre posts h.1 r.1)

block_kept : (atoms : List Atom) (k n : ℕ) (st : AtomState) (a : Atom) → slice_get atoms n ≡ Some a → (b : Atom) × (slice_get (set_atom k st atoms) n ≡ Some b) × (b.block.0 ≡ a.block.0)
block_kept [] k n st a e = absent e
block_kept (c ∷ atoms) zero zero st a e = (_, refl, ap (λ (z : Atom). z.block.0) (same_Some _ _ e))
block_kept (c ∷ atoms) zero (suc n) st a e = (a, e, refl)
block_kept (c ∷ atoms) (suc k) zero st a e = (a, e, refl)
block_kept (c ∷ atoms) (suc k) (suc n) st a e = block_kept atoms k n st a e

blocks_kept : (atoms : List Atom) (k : ℕ) (st : AtomState) (used : List ℕ) (posts : List Atom) → BlocksAt atoms used posts → BlocksAt (set_atom k st atoms) used posts
blocks_kept atoms k st [] posts h = tt
blocks_kept atoms k st (n ∷ used) [] h = tt
blocks_kept atoms k st (n ∷ used) (b ∷ posts) ((a, at, same), h) = let (c, at', same') = block_kept atoms k n st a at in ((c, at', same' ∙ same), blocks_kept atoms k st used posts h)

module _ (types : List BlockType) (vars : List VarInfo) (pure : List Conj) (σ : Substitution) where
  -- the state of the block, read by the caller, fits it and has good contents
  abbrev pub IsLeft : Atom → Type 0
  IsLeft b = (fits_state (fits_cell vars) (types_of (slice_get types b.block.0)) (state_through σ b.state) ≡ true) × Each (Good vars pure) (state_cells (state_through σ b.state))

  updated_good : (used : List ℕ) (posts atoms : List Atom) → BlocksAt atoms used posts → Each IsLeft posts → Each (GoodAtom types vars pure) atoms → Each (GoodAtom types vars pure) (update_atoms σ used posts atoms)
  updated_good [] posts atoms at h g = g
  updated_good (n ∷ used) [] atoms at h g = g
  updated_good (n ∷ used) (b ∷ posts) atoms ((a, is, same), at) h g =
      let st : AtomState = state_through σ b.state in
      updated_good used posts (set_atom n st atoms) (blocks_kept atoms n st used posts at) h.1
      (set_good types vars pure atoms n a st is (subst (λ t. fits_state (fits_cell vars) (types_of (slice_get types t)) st ≡ true) (sym same) h.0.0) h.0.1 g)

  updated_own : (used : List ℕ) (posts atoms : List Atom) → OwnPlaces vars atoms → OwnPlaces vars (update_atoms σ used posts atoms)
  updated_own [] posts atoms o = o
  updated_own (n ∷ used) [] atoms o = o
  updated_own (n ∷ used) (b ∷ posts) atoms o = updated_own used posts (set_atom n (state_through σ b.state) atoms) (set_own types vars pure atoms n (state_through σ b.state) o)

  updated_keys : (used : List ℕ) (posts atoms : List Atom) → map (key vars) (found_atoms vars (update_atoms σ used posts atoms)) ≡ map (key vars) (found_atoms vars atoms)
  updated_keys [] posts atoms = refl
  updated_keys (n ∷ used) [] atoms = refl
  updated_keys (n ∷ used) (b ∷ posts) atoms = updated_keys used posts (set_atom n (state_through σ b.state) atoms) ∙ keys_set vars atoms n (state_through σ b.state)

  updated_made : (used : List ℕ) (posts atoms : List Atom) → made_places vars (update_atoms σ used posts atoms) ≡ made_places vars atoms
  updated_made [] posts atoms = refl
  updated_made (n ∷ used) [] atoms = refl
  updated_made (n ∷ used) (b ∷ posts) atoms = updated_made used posts (set_atom n (state_through σ b.state) atoms) ∙ made_set vars atoms n (state_through σ b.state)

-- ---- the state after

module _ (j : JobTree) (arguments : List Content) (x : Entry) (regular : is_regular j.types (length arguments) x ≡ true) (u : State) (σ : Substitution) (used : List ℕ) (m : Matched j.types arguments x u σ [] used) (h : Pending j x u σ) where
  abbrev new : List VarInfo
  new = new_variables x.vars

  abbrev vars : List VarInfo
  vars = u.vars ++ new

  abbrev all : Substitution
  all = stand_all x σ u

  abbrev says : List Conj
  says = folded vars all x.pure u.pure

  abbrev posts : List Atom
  posts = found_atoms x.vars x.post

  abbrev old : List Atom
  old = update_atoms all used posts u.atoms

  abbrev made : List Atom
  made = made_atoms x.vars x.post

  abbrev t : State
  t = done_state x σ used u

  of : Parts j.types x
  of = parts j.types (length arguments) x regular

  grown : Grown u.vars vars
  grown = grown_by u.vars new

  before : StandsBefore u.vars u.pure x.vars σ
  before = stands_before j.types arguments x u σ used m (given_of j.types (length arguments) x regular)

  typed : (y : ℕ) (i : VarInfo) → slice_get x.vars y ≡ Some i → IsNewType i.sort i.value
  typed = new_types j.types (length arguments) x regular

  stands : Stands vars u.pure x.vars all
  stands = stands_all u.vars u.pure x.vars σ before typed

  more : SaysMore u.pure says
  more = folded_more vars all x.pure u.pure

  claimed : (y : ℕ) (z : Var) → is_said_written x.pure y ≡ true → content_for all y ≡ Some (Cell z) → is_usable vars says z.0 ≡ true
  claimed y z e is = ap (λ q. not (is_cell vars z.0) || q) (folded_said vars all x.pure u.pure y z e is) ∙ or_right (not (is_cell vars z.0)) true refl

  -- what counted as written is said to be so
  said : SaysMore h.counted says
  said z e = by (h.said z e)
    where
      by : (is_said_written u.pure z ≡ true) ⊎ IsPromised x σ z → is_said_written says z ≡ true
      by (inl f) = more z f
      by (inr (y, f, is)) = folded_said vars all x.pure u.pure y (record { 0 = z }) f (found_more σ (stand_new 0 (length u.vars) x.vars) y (Cell (record { 0 = z })) is)

  -- ---- conjuncts

  abbrev Used : ℕ → Type 0
  Used y = is_used_written x y ≡ true

  good_claims : (cs : List Conj) → list_all (is_well_sorted x.vars) cs ≡ true → list_all (is_quotient_input x.vars) cs ≡ true → Each Used (flat_map used_by_conjunct cs) → Each (λ c. GoodClaim vars says (claim_through all c)) cs
  good_claims [] e r k = tt
  good_claims (c ∷ cs) e r k =
      let d = and_parts (is_quotient_input x.vars c) (list_all (is_quotient_input x.vars) cs) r in
      let b = and_parts (is_well_sorted x.vars c) (list_all (is_well_sorted x.vars) cs) e in
      let (first, rest) = each_split Used (used_by_conjunct c) (flat_map used_by_conjunct cs) k in
      (good_claim x vars u.pure says more all stands claimed c b.0 d.0 first, good_claims cs b.1 d.1 rest)

  conjuncts : Each (GoodConj vars says) says
  conjuncts = folded_each vars all says x.pure u.pure (each_weaker _ _ (conj_grown u.vars vars grown h.counted says said) u.pure h.conjuncts) (good_claims x.pure of.sorted of.quotients of.in_conjuncts)

  -- ---- blocks

  abbrev Left : Atom → Type 0
  Left = IsLeft j.types vars says all

  all_left : (atoms : List Atom) → list_all (fits_block j.types (fits_cell x.vars)) atoms ≡ true → Each Used (flat_map used_by_atom atoms) → Each Left atoms
  all_left [] e k = tt
  all_left (a ∷ atoms) e k =
      let b = and_parts (fits_block j.types (fits_cell x.vars) a) (list_all (fits_block j.types (fits_cell x.vars)) atoms) e in
      let (first, rest) = each_split Used (used_by_atom a) (flat_map used_by_atom atoms) k in
      (read_state x vars u.pure says more all stands claimed (types_of (slice_get j.types a.block.0)) a.state b.0 first.1, all_left atoms b.1 rest)

  left : Each Left x.post
  left = all_left x.post of.fits of.in_post

  met : AllMet u.vars u.pure u.atoms σ used x.pre
  met = subst (AllMet u.vars u.pure u.atoms σ used) (sym (append-nil m.first) ∙ sym m.split) m.met

  old_good : Each (GoodAtom j.types vars says) old
  old_good =
      updated_good j.types vars says all used posts u.atoms (blocks_at u.vars u.pure u.atoms σ used x.pre posts met of.blocks)
      (each_weaker _ Left (λ a k. k.0) posts (each_filter (λ a. not (is_made x.vars a.place.0)) Left x.post left))
      (each_weaker _ _ (atom_grown u.vars vars grown h.counted says said j.types) u.atoms h.well_typed.atoms)

  -- a block that the callee made
  abbrev made_one : Atom → Atom
  made_one a = atom_of (record { 0 = number_at x.vars (length u.vars) a.place.0 }) a.block (state_through all a.state)

  abbrev IsMadeAtom : Atom → Type 0
  IsMadeAtom a = Left a × (points_to_block x.vars a ≡ true) × (is_made x.vars a.place.0 ≡ true)

  made_atoms_are : Each IsMadeAtom made
  made_atoms_are =
      each_weaker _ _ (λ a k. (k.0.0, k.0.1, k.1)) made
      (each_filter (λ a. is_made x.vars a.place.0) (λ (a : Atom). Left a × (points_to_block x.vars a ≡ true)) x.post
      (both x.post left (each_from (points_to_block x.vars) (λ (a : Atom). points_to_block x.vars a ≡ true) (λ a k. k) x.post of.points)))
    where
      both : (atoms : List Atom) → Each Left atoms → Each (λ (a : Atom). points_to_block x.vars a ≡ true) atoms → Each (λ (a : Atom). Left a × (points_to_block x.vars a ≡ true)) atoms
      both [] p q = tt
      both (a ∷ atoms) p q = ((p.0, q.0), both atoms p.1 q.1)

  made_listed : (y : ℕ) (i : VarInfo) → slice_get x.vars y ≡ Some i → i.sort ≡ sort.Made → slice_get vars (number_at x.vars (length u.vars) y) ≡ Some i
  made_listed y i at is = listed_at u.vars u.pure x.vars σ before typed y i at (made_new i is)

  made_is_made : (y : ℕ) → is_made x.vars y ≡ true → is_made vars (number_at x.vars (length u.vars) y) ≡ true
  made_is_made y e = let (i, at, is) = made_is x.vars y e in ap (λ (o : Option VarInfo). is_some_and o (λ (k : VarInfo). is_made_sort k.sort)) (made_listed y i at is) ∙ ap is_made_sort is

  one_made : (a : Atom) → points_to_block x.vars a ≡ true → is_made x.vars a.place.0 ≡ true → made_through all a ≡ made_one a ∷ []
  one_made a points e =
      let (i, at, is) = made_is x.vars a.place.0 e in
      let (k, at', same) = variable_is x.vars (λ (i : VarInfo). same_type i.value (Pointer a.block)) a.place.0 points in
      let type : i.value ≡ Pointer a.block = ap (λ (z : VarInfo). z.value) (same_Some _ _ (sym at ∙ at')) ∙ same_is k.value (Pointer a.block) same in
      ap (λ o. elim (place_in o) as (λ _. List Atom) [ None ↦ [] | Some p ↦ elim p as (λ _. List Atom) [ place.Null ↦ [] | place.Var z ↦ atom_of z a.block (state_through all a.state) ∷ [] ] ])
      (new_content u.vars u.pure x.vars σ before typed a.place.0 i at (made_new i is) ∙ ap (λ z. Some (variable_content z (number_at x.vars (length u.vars) a.place.0))) type)

  made_are : (atoms : List Atom) → Each IsMadeAtom atoms → flat_map (made_through all) atoms ≡ map made_one atoms
  made_are [] k = refl
  made_are (a ∷ atoms) k = ap₂ (λ (p q : List Atom). p ++ q) (one_made a k.0.1 k.0.2) (made_are atoms k.1)

  made_good : (atoms : List Atom) → Each IsMadeAtom atoms → Each (GoodAtom j.types vars says) (map made_one atoms)
  made_good [] k = tt
  made_good (a ∷ atoms) (((fits, cells), points, e), k) =
      let (i, at, is) = made_is x.vars a.place.0 e in
      let (l, at', same) = variable_is x.vars (λ (i : VarInfo). same_type i.value (Pointer a.block)) a.place.0 points in
      let there = made_listed a.place.0 i at is in (
        record {
          points = ap (λ (o : Option VarInfo). is_some_and o (λ (z : VarInfo). same_type z.value (Pointer a.block))) there ∙ ap (λ (z : VarInfo). same_type z.value (Pointer a.block)) (same_Some _ _ (sym at ∙ at')) ∙ same;
          usable = other_usable vars says (number_at x.vars (length u.vars) a.place.0) i there (ap is_cell_sort is);
          fits = fits;
          cells = cells;
        },
        made_good atoms k,
      )

  abbrev added : List Atom
  added = map made_one made

  added_are_made : (atoms : List Atom) → Each (λ (a : Atom). is_made x.vars a.place.0 ≡ true) atoms → Each (λ (a : Atom). is_made vars a.place.0 ≡ true) (map made_one atoms)
  added_are_made [] k = tt
  added_are_made (a ∷ atoms) k = (made_is_made a.place.0 k.0, added_are_made atoms k.1)

  added_places : (atoms : List Atom) → map (λ (a : Atom). a.place.0) (map made_one atoms) ≡ map (number_at x.vars (length u.vars)) (map (λ (a : Atom). a.place.0) atoms)
  added_places [] = refl
  added_places (a ∷ atoms) = ap (λ (ns : List ℕ). number_at x.vars (length u.vars) a.place.0 ∷ ns) (added_places atoms)

  added_own : OwnPlaces vars added
  added_own =
      own_distinct vars added (subst AreDistinct (sym (added_places made)) (distinct_numbers x.vars (length u.vars) (made_places x.vars x.post) (are_made x.vars x.post of.once) (places_distinct x.vars x.post of.once)))

  old_below : Each (λ (a : Atom). a.place.0 < length u.vars) old
  old_below = updated used posts u.atoms (each_weaker _ _ (λ a k. let (i, at, e) = variable_is u.vars _ a.place.0 k.points in slice_get_within u.vars a.place.0 i at) u.atoms h.well_typed.atoms)
    where
      set : (atoms : List Atom) (n : ℕ) (st : AtomState) → Each (λ (a : Atom). a.place.0 < length u.vars) atoms → Each (λ (a : Atom). a.place.0 < length u.vars) (set_atom n st atoms)
      set [] n st k = tt
      set (a ∷ atoms) zero st k = k
      set (a ∷ atoms) (suc n) st k = (k.0, set atoms n st k.1)

      updated : (used : List ℕ) (posts atoms : List Atom) → Each (λ (a : Atom). a.place.0 < length u.vars) atoms → Each (λ (a : Atom). a.place.0 < length u.vars) (update_atoms all used posts atoms)
      updated [] posts atoms k = k
      updated (n ∷ used) [] atoms k = k
      updated (n ∷ used) (b ∷ posts) atoms k = updated used posts (set_atom n (state_through all b.state) atoms) (set atoms n (state_through all b.state) k)

  beyond : (n : ℕ) → n < length u.vars → (atoms : List Atom) → Each (λ (b : Atom). n ≢ b.place.0) (map made_one atoms)
  beyond n l [] = tt
  beyond n l (a ∷ atoms) = ((λ e. let f : ⊥ = omega (arith, e, l) in f), beyond n l atoms)

  atoms_own : OwnPlaces vars (old ++ added)
  atoms_own =
      own_after vars old added (updated_own j.types vars says all used posts u.atoms (own_grown u.vars vars grown j.types h.counted u.atoms h.well_typed.atoms h.well_typed.own)) added_own
      (each_weaker _ _ (λ a l. beyond a.place.0 l made) old old_below)

  atoms_are : old ++ flat_map (made_through all) made ≡ old ++ added
  atoms_are = ap (λ (bs : List Atom). old ++ bs) (made_are made made_atoms_are)

  pub well_typed_after : WellTyped j.types t
  well_typed_after = record {
    slots = each_weaker _ _ (good_grown u.vars vars grown h.counted says said) u.slots h.well_typed.slots;
    atoms = subst (Each (GoodAtom j.types vars says)) (sym atoms_are) (each_append _ old added old_good (made_good made made_atoms_are));
    own = subst (OwnPlaces vars) (sym atoms_are) atoms_own;
  }

  -- ---- what an entry that is made of it needs

  added_found : (found_atoms vars added ≡ []) × (made_atoms vars added ≡ added)
  added_found = found_none vars added (added_are_made made (all_made x.vars x.post of.once x.post))

  found_are : found_atoms vars (old ++ added) ≡ found_atoms vars old
  found_are = filter-append (λ (a : Atom). not (is_made vars a.place.0)) old added ∙ ap (λ (bs : List Atom). found_atoms vars old ++ bs) added_found.0 ∙ append-nil (found_atoms vars old)

  map_places : (as' bs : List Atom) → map (λ (a : Atom). a.place.0) (as' ++ bs) ≡ map (λ (a : Atom). a.place.0) as' ++ map (λ (a : Atom). a.place.0) bs
  map_places [] bs = refl
  map_places (a ∷ as') bs = ap (λ (ns : List ℕ). a.place.0 ∷ ns) (map_places as' bs)

  old_places : made_places vars old ≡ made_places u.vars u.atoms
  old_places = updated_made j.types vars says all used posts u.atoms ∙ ap (map (λ (a : Atom). a.place.0)) (made_same u.vars vars grown h.counted says said j.types u.atoms h.well_typed.atoms)

  abbrev numbers : List ℕ
  numbers = map (number_at x.vars (length u.vars)) (made_places x.vars x.post)

  places_are : made_places vars (old ++ added) ≡ made_places u.vars u.atoms ++ numbers
  places_are =
      ap (map (λ (a : Atom). a.place.0)) (filter-append (λ (a : Atom). is_made vars a.place.0) old added)
      ∙ map_places (made_atoms vars old) (made_atoms vars added)
      ∙ ap₂ (λ (p q : List ℕ). p ++ q) old_places (ap (map (λ (a : Atom). a.place.0)) added_found.1 ∙ added_places made)

  plus_zero : (n : ℕ) → n + 0 ≡ n
  plus_zero n = omega arith

  old_numbers : (y : ℕ) → y < length u.vars → times y (made_places u.vars u.atoms ++ numbers) ≡ times y (made_places u.vars u.atoms)
  old_numbers y l =
      times_append y (made_places u.vars u.atoms) numbers ∙ ap (λ n. times y (made_places u.vars u.atoms) + n) (numbers_after x.vars (length u.vars) (made_places x.vars x.post) y l) ∙ plus_zero (times y (made_places u.vars u.atoms))

  new_numbers : (n : ℕ) (i : VarInfo) → slice_get new n ≡ Some i → is_made_sort i.sort ≡ true → (y : ℕ) → y ≡ length u.vars + n → times y (made_places u.vars u.atoms ++ numbers) ≡ 1
  new_numbers n i at is y same =
      let (z, at_z, before_z) = new_back x.vars n i at in
      let made_z : is_made x.vars z ≡ true = ap (λ (o : Option VarInfo). is_some_and o (λ (k : VarInfo). is_made_sort k.sort)) at_z ∙ is in
      let here : y ≡ number_at x.vars (length u.vars) z = omega (arith, same, before_z) in
      let none : times y (made_places u.vars u.atoms) ≡ 0 =
      times_none y (made_places u.vars u.atoms) (each_weaker (λ k. k < length u.vars) (λ k. y ≢ k) (λ k l e. let f : ⊥ = omega (arith, same, l, e) in f) (made_places u.vars u.atoms)
      (places_below j.types j.body.parameters u.vars h.counted u.pre u.atoms h.well_typed.atoms u.atoms h.well_typed.atoms)) in
      let once : times y numbers ≡ 1 =
      ap (λ k. times k numbers) here ∙ times_number x.vars (length u.vars) (made_places x.vars x.post) (are_made x.vars x.post of.once) z made_z ∙ stands_there x.vars x.post of.once z made_z in
      times_append y (made_places u.vars u.atoms) numbers ∙ ap₂ (λ p q. p + q) none once

  pub complete_after : CompleteAt j t
  complete_after = record {
    more = h.complete.more ++ new;
    split = ap (λ vs. vs ++ new) h.complete.split ∙ append_assoc (given_variables j.body.parameters) h.complete.more new;
    others = others_more h.complete.more new h.complete.others (all_new (λ (i : VarInfo). not (is_given_sort i.sort)) new_not_given x.vars);
    words = words_more u.vars new h.complete.words (all_among _ x.vars of.inputs);
    conjuncts = conjuncts;
    found = each_weaker _ _ (found_grown u.vars vars grown h.counted says said j.types) u.pre h.complete.found;
    cells = once_grown (λ i. is_cell_sort i.sort) u.vars new (cells_of u.pre) (cells_of u.pre) h.complete.cells (λ y l. refl)
        (λ n i e c y at. absurd (none_such (λ i. is_cell_sort i.sort) new (all_new (λ (i : VarInfo). not (is_cell_sort i.sort)) new_no_cell x.vars) n i e c));
    below = each_weaker _ _ (below_more u.vars new) (cells_of u.pre) h.complete.below;
    reached = reached_grown u.vars vars grown h.counted says said [] u.pre h.complete.reached;
    blocks = ap (λ (bs : List Atom). same_blocks u.pre (found_atoms vars bs)) atoms_are
        ∙ ap (same_blocks u.pre) found_are
        ∙ same_keys vars u.pre (found_atoms vars old) (found_atoms vars u.atoms) (updated_keys j.types vars says all used posts u.atoms)
        ∙ ap (same_blocks u.pre) (found_same u.vars vars grown h.counted says said j.types u.atoms h.well_typed.atoms)
        ∙ h.complete.blocks;
    made = subst (λ ns. Once (λ i. is_made_sort i.sort) ns vars) (sym (ap (made_places vars) atoms_are ∙ places_are))
        (once_grown (λ i. is_made_sort i.sort) u.vars new (made_places u.vars u.atoms) (made_places u.vars u.atoms ++ numbers) h.complete.made old_numbers new_numbers);
  }

  pub result_good : (r : Option Content) → x.result ≡ r → Good vars says (result_through all r)
  result_good None is = tt
  result_good (Some c) is =
      let used : Each Used (content_variables c) = subst (λ o. Each Used (used_by_result o)) is of.in_result in
      good_content x vars u.pure says more all stands claimed c (subst (λ o. is_result x.vars o ≡ true) is of.result) used
