-- After a call: the state that the entry leaves stands for what the callee left.
use Rattle.std.proofs.Common.{◌≡◌, ℕ, ◌<◌, Bool, true, not, Option, Some, None, List, [], ◌∷◌, ◌++◌, length, refl, sym, ap, ap₂, ◌∙◌, subst, inl, inr, append-nil}
use Rattle.std.specs.Prelude.{filter, flat_map}
use Rattle.px_terms.specs.Substitutions.{content_for}
use Rattle.px_terms.specs.Valuations.{Valuation, IsUnwritten, Fits}
use Rattle.px_terms.specs.Conjuncts.{IsTrueUnder}
use Rattle.px_terms.specs.declared.variables.Var.{Var}
use Rattle.px_terms.specs.declared.variables.VarInfo.{VarInfo}
use Rattle.px_terms.specs.declared.conjuncts.Place.TheVariants as place
use Rattle.px_terms.specs.declared.conjuncts.Content.{Content}
use Rattle.px_terms.specs.declared.conjuncts.Content.TheVariants.{Place}
use Rattle.px_terms.specs.declared.conjuncts.Conj.TheVariants as conjunct
use Rattle.px_terms.proofs.Agreement.{fits_fewer}
use Rattle.px_entry.specs.declared.atoms.Atom.{Atom}
use Rattle.px_entry.specs.declared.entries.Entry.{Entry}
use Rattle.px_entry.specs.Sorts.{is_made}
use Rattle.px_entry.specs.Constraint.{found_atoms, made_atoms}
use Rattle.px_entry.specs.Contents.{fits_cell}
use Rattle.px_entry.specs.Regular.{is_said_written, same_blocks, is_result, state_cells, is_regular}
use Rattle.px_entry.specs.Standing.{content_value, contents_value}
use Rattle.px_entry.proofs.Lists.{Each}
use Rattle.px_callgraph.specs.declared.states.State.{State}
use Rattle.px_callgraph.specs.JobTree.{JobTree}
use Rattle.px_callgraph.specs.Accesses.{atom_of, set_atom}
use Rattle.px_callgraph.specs.Renaming.{Substitution, new_variables, place_in, state_through, stand_new}
use Rattle.px_callgraph.specs.Calls.{made_through, update_atoms, is_possible, result_through}
use Rattle.px_meaning.specs.Heaps.{HeapMap, join, AreApart}
use Rattle.px_meaning.specs.Triples.{heap_of, result_value}
use Rattle.px_meaning.proofs.Joins.{join_lacks}
use Rattle.px_soundness.proofs.AtomHeaps.{at_heap, Placed, front_none, heap_append, back_none}
use Rattle.px_soundness.proofs.Truths.{made_is, stands_says}
use Rattle.px_soundness.proofs.EntryHeaps.{same_head}
use Rattle.px_soundness.proofs.Through.{stood, through, GoodSubstitution}
use Rattle.px_soundness.proofs.FitsThrough.{Suits, Stands as StandsFor, fits_through}
use Rattle.px_soundness.proofs.ContentsThrough.{HasKind, AreAt, content_is, update_is}
use Rattle.px_soundness.proofs.EntryParts.{Parts, parts, atoms_kind, result_kind, each_filter, made_heap}
use Rattle.px_soundness.proofs.CallMatches.{AllMet, found_more}
use Rattle.px_soundness.proofs.CallStages.{Matched}
use Rattle.px_soundness.proofs.CallStands.{stands_all, good_all}
use Rattle.px_soundness.proofs.CallPending.{Pending}
use Rattle.px_soundness.proofs.CallFinish.{done_state}
use Rattle.px_coverage.specs.Covered.{Execution, IsOf}
use Rattle.px_coverage.proofs.Stands.{Stands, placed_filter}
use Rattle.px_coverage.proofs.SameHeaps.{IsSame, heaps_same, placed_same}
use Rattle.px_coverage.proofs.Extended.{contents_agree, heap_same, stands_extended}
use Rattle.px_coverage.proofs.BlockStands.{set_none, placed_changed}
use Rattle.px_coverage.proofs.EntryAgrees.{content_same, atoms_same, truths_same}
use Rattle.px_coverage.proofs.ClaimsFollow.{are_open, all_assumed}
use Rattle.px_coverage.proofs.CallAgrees.{Agrees}
use Rattle.px_coverage.proofs.InnerHeaps.{Kept, Made, post_placed, conjuncts_true, made_new, after_is, placed_append}
use Rattle.px_coverage.proofs.NewVariables as new
use Rattle.px_callgraph.proofs.KeepLemmas.{each_weaker}

each_kept : (Q : Atom → Type 0) (test : Atom → Bool) (xs : List Atom) → Each Q xs → Each Q (filter test xs)
each_kept Q test xs h = each_weaker (λ a. Q a × (test a ≡ true)) Q (λ a p. p.0) (filter test xs) (each_filter test Q xs h)

module _ (v : Valuation) (σ : Substitution) where
  -- atoms that change stay blocks of the same numbers
  updated_none : (used : List ℕ) (posts atoms : List Atom) (n : ℕ) → heap_of v atoms n ≡ None → heap_of v (update_atoms σ used posts atoms) n ≡ None
  updated_none [] posts atoms n e = e
  updated_none (k ∷ used) [] atoms n e = e
  updated_none (k ∷ used) (b ∷ posts) atoms n e = updated_none used posts (set_atom k (state_through σ b.state) atoms) n (set_none v atoms k (state_through σ b.state) n e)

  updated_placed : (used : List ℕ) (posts atoms : List Atom) → Placed v atoms → Placed v (update_atoms σ used posts atoms)
  updated_placed [] posts atoms p = p
  updated_placed (k ∷ used) [] atoms p = p
  updated_placed (k ∷ used) (b ∷ posts) atoms p = updated_placed used posts (set_atom k (state_through σ b.state) atoms) (placed_changed v atoms k (state_through σ b.state) p)

module _ (j : JobTree) (e : Execution) (contents : List Content) (x : Entry) (regular : is_regular j.types (length contents) x ≡ true)
    (u : State) (σ : Substitution) (used : List ℕ) (m : Matched j.types contents x u σ [] used) (q : Pending j x u σ)
    (v : Valuation) (rest : HeapMap) (stands : Stands e v rest u.vars u.pure u.pre u.atoms)
    (inner : Execution) (is_of : IsOf inner x) (agrees : Agrees v is_of.valuation σ) (same : inner.before ≡ join (heap_of v u.atoms) rest) where
  abbrev w : Valuation
  w = is_of.valuation

  abbrev vars : List VarInfo
  vars = new.vars j e contents x regular u σ used m q v rest stands inner is_of agrees same

  abbrev all : Substitution
  all = new.all j e contents x regular u σ used m q v rest stands inner is_of agrees same

  abbrev pub val : Valuation
  val = new.val j e contents x regular u σ used m q v rest stands inner is_of agrees same

  -- the callee's valuation, as the caller has it
  abbrev W : Valuation
  W = through val all

  of : Parts j.types x
  of = parts j.types (length contents) x regular

  agree : (y : ℕ) → y < length u.vars → val y ≡ v y
  agree = new.agree j e contents x regular u σ used m q v rest stands inner is_of agrees same

  through_is : (y : ℕ) → y < length x.vars → W y ≡ w y
  through_is = new.through_is j e contents x regular u σ used m q v rest stands inner is_of agrees same

  fits : Fits vars val
  fits = new.val_fits j e contents x regular u σ used m q v rest stands inner is_of agrees same

  -- ---- with values for the new variables

  between : Stands e val rest vars u.pure u.pre u.atoms
  between =
      stands_extended u.vars q.counted v val agree j.types j.body.parameters u.pre u.atoms q.well_typed.atoms q.complete e rest (new_variables x.vars) (new.new_sorts j e contents x regular u σ used m q v rest stands inner is_of agrees same) u.pure q.conjuncts stands

  stands_for : StandsFor vars u.pure x.vars all
  stands_for = stands_all u.vars u.pure x.vars σ (new.before j e contents x regular u σ used m q v rest stands inner is_of agrees same) (new.typed j e contents x regular u σ used m q v rest stands inner is_of agrees same)

  abbrev good : GoodSubstitution vars u.pure val fits all
  good = good_all u.vars u.pure x.vars σ m.good

  blocks_same : heap_of val u.atoms ≡ heap_of v u.atoms
  blocks_same = heap_same u.vars q.counted v val agree j.types j.body.parameters u.pre u.atoms q.well_typed.atoms q.complete

  -- ---- what the entry says is so of the caller's values

  truths : Each (IsTrueUnder W) x.pure
  truths = truths_same x.vars w W through_is x.pure of.sorted (conjuncts_true j.types (length contents) x regular inner is_of)

  pub possible : is_possible x all u ≡ true
  possible = are_open vars u.pure val fits between.true_of x.vars all good stands_for x.pure of.sorted of.quotients truths

  abbrev found : List Atom
  found = found_atoms x.vars x.post

  abbrev made : List Atom
  made = made_atoms x.vars x.post

  -- ---- the entry's blocks are the same under both valuations

  posts_same : Each (IsSame w W) x.post
  posts_same = atoms_same x.vars w W through_is (fits_cell x.vars) (λ t c f. f) j.types x.post of.points of.fits

  found_is : heap_of W found ≡ Kept j.types (length contents) x regular inner is_of
  found_is = heaps_same w W found (each_kept (IsSame w W) (λ a. not (is_made x.vars a.place.0)) x.post posts_same)

  made_is_same : heap_of W made ≡ Made j.types (length contents) x regular inner is_of
  made_is_same = heaps_same w W made (each_kept (IsSame w W) (λ a. is_made x.vars a.place.0) x.post posts_same)

  posts_placed : Placed W x.post
  posts_placed = placed_same w W x.post posts_same (post_placed j.types (length contents) x regular inner is_of)

  fit : Fits x.vars W
  fit = fits_through vars u.pure val fits between.true_of x.vars all stands_for

  said : (y : ℕ) → is_said_written x.pure y ≡ true → IsUnwritten (W y) → ⊥
  said y f h = stands_says W (conjunct.Written (record { 0 = y })) x.pure truths f h

  kinds : Each (λ (a : Atom). Each (HasKind W) (state_cells a.state)) x.post
  kinds = atoms_kind x W fit said j.types x.post of.fits of.in_post

  abbrev IsMadeKind : Atom → Type 0
  IsMadeKind a = Each (HasKind W) (state_cells a.state) × (is_made x.vars a.place.0 ≡ true)

  made_kinds : Each IsMadeKind made
  made_kinds = each_filter (λ a. is_made x.vars a.place.0) (λ (a : Atom). Each (HasKind W) (state_cells a.state)) x.post kinds

  -- ---- the caller's atoms

  met : AllMet u.vars u.pure u.atoms σ used x.pre
  met = subst (AllMet u.vars u.pure u.atoms σ used) (sym (append-nil m.first) ∙ sym m.split) m.met

  are_at : (us : List ℕ) (qs posts : List Atom) → AllMet u.vars u.pure u.atoms σ us qs → same_blocks qs posts ≡ true → AreAt vars u.pure val fits between.true_of all good u.atoms us posts
  are_at [] [] [] h f = tt
  are_at [] [] (b ∷ posts) h f = cc
  are_at [] (p ∷ qs) posts h f = absurd h
  are_at (n ∷ us) [] posts h f = absurd h
  are_at (n ∷ us) (p ∷ qs) [] h f = cc
  are_at (n ∷ us) (p ∷ qs) (b ∷ posts) (at, h) f =
      let (place, block, later) = same_head W p b qs posts f in (
        (
          at.atom,
          at.at,
          sym (at.same val (fits_fewer u.vars (new_variables x.vars) val fits) between.true_of) ∙ sym (ap (stood val) (found_more σ (stand_new 0 (length u.vars) x.vars) p.place.0 at.content at.place)) ∙ ap W place,
          at.block ∙ block,
        ),
        are_at us qs posts h later,
      )

  abbrev changed : List Atom
  changed = update_atoms all used found u.atoms

  abbrev added : List Atom
  added = flat_map (made_through all) made

  changed_placed : Placed val changed
  changed_placed = updated_placed val all used found u.atoms between.placed

  changed_is : heap_of val changed ≡ join (heap_of W found) (heap_of val u.atoms)
  changed_is =
      update_is vars u.pure val fits between.true_of all good used found u.atoms changed_placed (placed_filter W (λ (a : Atom). not (is_made x.vars a.place.0)) x.post posts_placed) (are_at used x.pre found met of.blocks)
      (each_kept (λ (a : Atom). Each (HasKind W) (state_cells a.state)) (λ a. not (is_made x.vars a.place.0)) x.post kinds)

  added_of : (atoms : List Atom) → Each IsMadeKind atoms → heap_of val (flat_map (made_through all) atoms) ≡ heap_of W atoms
  added_of atoms k = made_heap vars u.pure val fits between.true_of all good x.vars stands_for atoms k

  added_is : heap_of val added ≡ Made j.types (length contents) x regular inner is_of
  added_is = added_of made made_kinds ∙ made_is_same

  made_one : (a : Atom) (z : Var) → content_for all a.place.0 ≡ Some (Place (place.Var z)) → made_through all a ≡ atom_of z a.block (state_through all a.state) ∷ []
  made_one a z is = ap (λ o. elim (place_in o) as (λ _. List Atom) [ None ↦ [] | Some p ↦ elim p as (λ _. List Atom) [ place.Null ↦ [] | place.Var y ↦ atom_of y a.block (state_through all a.state) ∷ [] ] ]) is

  placed_of : (atoms : List Atom) → Each IsMadeKind atoms → Placed W atoms → Placed val (flat_map (made_through all) atoms)
  placed_of [] k p = tt
  placed_of (a ∷ atoms) (k, ks) (n, at, out, p) =
      let (i, at_i, is) = made_is x.vars a.place.0 k.1 in
      let (c, stand, g, h) = stands_for.content a.place.0 i at_i in
      let (z, same_c, is_made', type) = subst (λ s. Suits vars s i.value c) is h in
      let there : content_for all a.place.0 ≡ Some (Place (place.Var z)) = stand ∙ ap Some same_c in
      subst (Placed val) (sym (ap (λ (bs : List Atom). bs ++ flat_map (made_through all) atoms) (made_one a z there))) (n, sym (ap (stood val) there) ∙ at, at_heap n (added_of atoms ks) ∙ out, placed_of atoms ks p)

  -- ---- the heap after

  before_is : inner.before ≡ join (heap_of val u.atoms) rest
  before_is = same ∙ ap (λ h. join h rest) (sym blocks_same)

  apart : AreApart (heap_of val added) (join (heap_of val u.atoms) rest)
  apart n = elim (made_new j.types (length contents) x regular inner is_of n) [ inl f ↦ inl (at_heap n added_is ∙ f) | inr f ↦ inr (sym (at_heap n before_is) ∙ f) ]

  abbrev pub t : State
  t = done_state x σ used u

  heap_is : heap_of val t.atoms ≡ join (join (Kept j.types (length contents) x regular inner is_of) (heap_of val u.atoms)) (Made j.types (length contents) x regular inner is_of)
  heap_is = heap_append val changed added ∙ ap₂ join (changed_is ∙ ap (λ h. join h (heap_of val u.atoms)) found_is) added_is

  pub after : inner.after ≡ join (heap_of val t.atoms) rest
  after = after_is j.types (length contents) x regular inner is_of (heap_of val u.atoms) rest before_is ∙ ap (λ h. join h rest) (sym heap_is)

  pub behind : Stands e val rest t.vars t.pure t.pre t.atoms
  behind = record {
    sorts = between.sorts;
    given = between.given;
    true_of = all_assumed vars u.pure val fits between.true_of x.vars all good stands_for x.pure u.pure of.sorted of.quotients truths between.true_of;
    placed = placed_append val changed added changed_placed (placed_of made made_kinds (placed_filter W (λ (a : Atom). is_made x.vars a.place.0) x.post posts_placed))
        (λ n. elim (apart n) [ inl f ↦ inr f | inr f ↦ inl (updated_none val all used found u.atoms n (front_none (heap_of val u.atoms) rest n f)) ]);
    apart = λ n. elim (between.apart n) [
      | inr f ↦ inr f
      | inl out ↦ elim (apart n) [
        | inl f ↦ inl (at_heap n (heap_append val changed added) ∙ join_lacks (heap_of val changed) (heap_of val added) n (updated_none val all used found u.atoms n out) ∙ f)
        | inr f ↦ inr (back_none (heap_of val u.atoms) rest n f)
      ]
    ];
    begins = between.begins;
  }

  pub slots_same : contents_value val u.slots ≡ contents_value v u.slots
  slots_same = contents_agree u.vars q.counted v val agree u.slots q.well_typed.slots

  pub result_is : (r : Option Content) → x.result ≡ r → content_value val (result_through all r) ≡ result_value w r
  result_is None is = refl
  result_is (Some c) is =
      content_is vars u.pure val fits between.true_of all good c (result_kind x W fit said x.result of.result of.in_result c is)
      ∙ content_same x.vars w W through_is c (subst (λ o. is_result x.vars o ≡ true) is of.result)
