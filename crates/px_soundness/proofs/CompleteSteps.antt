-- Each way of a command keeps what makes entries regular.
use Rattle.std.proofs.Common.{◌≡◌, ℕ, zero, suc, ◌+◌, ◌<◌, Bool, true, false, not, cond, nat_eq, nat_lt, ◌&&◌, ◌||◌, Option, Some, None, List, [], ◌∷◌, ◌++◌, map, length, pos, negsuc, slice_get, slice_set, refl, sym, ap, ◌∙◌, subst, arith, append-nil}
use Rattle.std.specs.Prelude.{is_some, flat_map}
use Rattle.std.specs.List.{list_all}
use Rattle.std.proofs.lemmas.Bool.{and_parts, eq-eqb, ltb-true}
use Rattle.std.proofs.lemmas.Option.{slice_get_within, same_Some}
use Rattle.px_base.specs.declared.trace.Site.{Site}
use Rattle.px_terms.specs.Polynomials.{Polynomial, difference_of}
use Rattle.px_terms.specs.Substitutions.{variable}
use Rattle.px_terms.specs.declared.types.TypeId.{TypeId}
use Rattle.px_terms.specs.declared.types.BlockType.{BlockType}
use Rattle.px_terms.specs.declared.types.ValueType.{ValueType}
use Rattle.px_terms.specs.declared.types.ValueType.TheVariants.{Int, Pointer}
use Rattle.px_terms.specs.declared.variables.VarInfo.{VarInfo}
use Rattle.px_terms.specs.declared.variables.Sort.TheVariants as sort
use Rattle.px_terms.specs.declared.conjuncts.Place.{Place as PlaceOf}
use Rattle.px_terms.specs.declared.conjuncts.Place.TheVariants as place
use Rattle.px_terms.specs.declared.conjuncts.Content.{Content}
use Rattle.px_terms.specs.declared.conjuncts.Content.TheVariants.{Unwritten, Word, Place, Cell}
use Rattle.px_terms.specs.declared.conjuncts.Conj.{Conj}
use Rattle.px_terms.specs.declared.conjuncts.Conj.TheVariants as conjunct
use Rattle.px_core.specs.declared.command.Operand.{Operand}
use Rattle.px_core.specs.declared.command.Operator.{Operator}
use Rattle.px_core.specs.declared.command.Comparison.{Comparison}
use Rattle.px_core.specs.declared.command.Comparison.TheVariants.{Equal, Unequal, Less, AtMost, SamePlace, OtherPlace}
use Rattle.px_core.specs.CommandTree.{CommandTree, assign, unset, read, test, choose, loop, leave, load, store, malloc, free, input, call, return, break, continue, stop, divide}
use Rattle.px_core.specs.Constants.{IsInRange, KeepsToRange}
use Rattle.px_entry.specs.declared.atoms.Atom.{Atom}
use Rattle.px_entry.specs.declared.atoms.AtomState.{AtomState}
use Rattle.px_entry.specs.declared.atoms.AtomState.TheVariants.{Live, Freed}
use Rattle.px_entry.specs.Sorts.{is_given_sort, is_cell_sort, is_input_sort, is_made_sort, is_int_type, is_pointer_type, same_type, is_some_and, is_input, is_made, is_int_polynomial, is_pointer, is_long, is_place_of}
use Rattle.px_entry.specs.Decided.{word_of, is_open, assume}
use Rattle.px_entry.specs.Cases.{may_be_at, may_be_missing, numbers_of}
use Rattle.px_entry.specs.Contents.{fits_cell, cell_variables}
use Rattle.px_entry.specs.Regular.{are_inputs_words, cells_of}
use Rattle.px_entry.proofs.Lists.{Each}
use Rattle.px_callgraph.specs.declared.states.State.{State}
use Rattle.px_callgraph.specs.declared.states.Way.{Way}
use Rattle.px_callgraph.specs.declared.states.Way.TheVariants as way
use Rattle.px_callgraph.specs.JobTree.{JobTree}
use Rattle.px_callgraph.specs.States.{Done, on, content_at, operand_content, number, assumed, info, given_variables, start_of}
use Rattle.px_callgraph.specs.Operations.{of_words, of_places, operation, made_terms, condition, contrary}
use Rattle.px_callgraph.specs.Accesses.{listed_if, atom_ways, missing_ways, access_ways, accessed, cell_infos, block_cells, cell_contents, atom_of, meet_live, meet_freed, Access, load_access, store_access, free_access, use_state, use_atom, reach_atom, access_done}
use Rattle.px_callgraph.specs.Commands.{read_cell, read_done, read_ways, open_if, test_done, outcome_of, last_loop, leaving, malloc_ways, malloc_done, constant_quotient, quotient_by, divide_ways, words_divided, divide_done, field_type, returned, return_done, through_place, pointer_ways, is_argument, argument_contents, terms_of, assign_done, command_ways, act_done}
use Rattle.px_soundness.proofs.WellFormed.{UsableWord, Good, GoodAtom, WellTyped, times, GoodConj, GoodFound, Complete, CompleteAt}
use Rattle.px_soundness.proofs.AtomHeaps.{absent}
use Rattle.px_soundness.proofs.Truths.{variable_is}
use Rattle.px_soundness.proofs.Contents.{words_cases, places_cases}
use Rattle.px_soundness.proofs.WellTyped.{good_grown, each_get, grown_by, with_grown, same_grown, usable_grown, assume_more, well_typed_assumed, get_next, own_cells}
use Rattle.px_soundness.proofs.Sound.{Each1, each1_append, each1_if}
use Rattle.px_soundness.proofs.PlainSteps.{content_good, operand_good}
use Rattle.px_soundness.proofs.BlockSteps.{get_last, each_atom}
use Rattle.px_soundness.proofs.WellTypedSteps.{difference_good, other_usable, written_usable}
use Rattle.px_soundness.proofs.Complete.{conj_grown, complete_assumed}
use Rattle.px_soundness.proofs.CompleteMoves.{complete_variables, complete_met, complete_made, complete_changed}
use Rattle.px_meaning.proofs.Joins.{other_number}

abbrev pub CompleteDone : JobTree → Done → Type 1
CompleteDone j d = Unit {1} × CompleteAt j d.state

-- ---- conjuncts of comparisons

module _ (vars : List VarInfo) (pure : List Conj) where
  words_conj : (f : Polynomial → Polynomial → Conj) (a b : Content) (c : Conj) → of_words f a b ≡ Some c → Good vars pure a → Good vars pure b → ((p q : Polynomial) → Good vars pure (Word p) → Good vars pure (Word q) → GoodConj vars pure (f p q)) → GoodConj vars pure c
  words_conj f a b c e g h from = let (p, q, is, at, same) = words_cases f a b c e in subst (GoodConj vars pure) same (from p q (subst (Good vars pure) is g) (subst (Good vars pure) at h))

  places_conj : (f : PlaceOf → PlaceOf → Conj) (a b : Content) (c : Conj) → of_places f a b ≡ Some c → Good vars pure a → Good vars pure b → ((p q : PlaceOf) → Good vars pure (Place p) → Good vars pure (Place q) → GoodConj vars pure (f p q)) → GoodConj vars pure c
  places_conj f a b c e g h from = let (p, q, is, at, same) = places_cases f a b c e in subst (GoodConj vars pure) same (from p q (subst (Good vars pure) is g) (subst (Good vars pure) at h))

  condition_conj : (how : Comparison) (a b : Content) (c : Conj) → condition how a b ≡ Some c → Good vars pure a → Good vars pure b → GoodConj vars pure c
  condition_conj Equal a b c e g h = words_conj (λ p q. conjunct.Equal (difference_of p q)) a b c e g h (λ p q x y. (difference_good vars pure p q x y).1)
  condition_conj Unequal a b c e g h = words_conj (λ p q. conjunct.Unequal (difference_of p q)) a b c e g h (λ p q x y. (difference_good vars pure p q x y).1)
  condition_conj Less a b c e g h = words_conj conjunct.Less a b c e g h (λ p q x y. (x.1, y.1))
  condition_conj AtMost a b c e g h = words_conj conjunct.AtMost a b c e g h (λ p q x y. (x.1, y.1))
  condition_conj SamePlace a b c e g h = places_conj conjunct.SamePlace a b c e g h (λ p q x y. (x, y))
  condition_conj OtherPlace a b c e g h = places_conj conjunct.OtherPlace a b c e g h (λ p q x y. (x, y))

  contrary_conj : (how : Comparison) (a b : Content) (c : Conj) → contrary how a b ≡ Some c → Good vars pure a → Good vars pure b → GoodConj vars pure c
  contrary_conj Equal a b c e g h = condition_conj Unequal a b c e g h
  contrary_conj Unequal a b c e g h = condition_conj Equal a b c e g h
  contrary_conj Less a b c e g h = condition_conj AtMost b a c e h g
  contrary_conj AtMost a b c e g h = condition_conj Less b a c e h g
  contrary_conj SamePlace a b c e g h = condition_conj OtherPlace a b c e g h
  contrary_conj OtherPlace a b c e g h = condition_conj SamePlace a b c e g h

-- ---- the numbers of a block's cells

pub numbers_old : (n : ℕ) (ts : List ValueType) (x : ℕ) → x < n → times x (flat_map cell_variables (cell_contents n ts)) ≡ 0
numbers_old n [] x l = refl
numbers_old n (t ∷ ts) x l =
    let rest = flat_map cell_variables (cell_contents (suc n) ts) in
    ap (λ b. cond b (1 + times x rest) (times x rest)) (other_number x n (λ e. let f : ⊥ = omega (arith, l, e) in f)) ∙ numbers_old (suc n) ts x (omega (arith, l))

pub numbers_new : (n : ℕ) (ts : List ValueType) (k : ℕ) (i : VarInfo) → slice_get (cell_infos ts) k ≡ Some i → (x : ℕ) → x ≡ n + k → times x (flat_map cell_variables (cell_contents n ts)) ≡ 1
numbers_new n [] k i e x at = absent e
numbers_new n (t ∷ ts) zero i e x at =
    let rest = flat_map cell_variables (cell_contents (suc n) ts) in
    let same : x ≡ n = omega (arith, at) in
    ap (λ b. cond b (1 + times x rest) (times x rest)) (eq-eqb x n same) ∙ ap (λ m. 1 + m) (numbers_old (suc n) ts x (omega (arith, same)))
numbers_new n (t ∷ ts) (suc k) i e x at =
    let rest = flat_map cell_variables (cell_contents (suc n) ts) in
    ap (λ b. cond b (1 + times x rest) (times x rest)) (other_number x n (λ same. let f : ⊥ = omega (arith, at, same) in f)) ∙ numbers_new (suc n) ts k i e x (omega (arith, at))

pub numbers_below : (before : List VarInfo) (ts : List ValueType) (vars : List VarInfo) (n : ℕ) → vars ≡ before ++ cell_infos ts → n ≡ length before → Each (λ x. x < length vars) (flat_map cell_variables (cell_contents n ts))
numbers_below before ts vars n e at = go ts n (λ k i f x g. slice_get_within vars x i (ap (λ xs. slice_get xs x) e ∙ behind before (cell_infos ts) k x (g ∙ ap (λ m. m + k) at) ∙ f))
  where
    behind : (xs ys : List VarInfo) (k m : ℕ) → m ≡ length xs + k → slice_get (xs ++ ys) m ≡ slice_get ys k
    behind [] ys k m e = let f : m ≡ k = omega (arith, e) in ap (slice_get ys) f
    behind (x ∷ xs) ys k zero e = absurd (let f : ⊥ = omega (arith, e) in f)
    behind (x ∷ xs) ys k (suc m) e = behind xs ys k m (omega (arith, e))

    go : (us : List ValueType) (m : ℕ) → ((k : ℕ) (i : VarInfo) → slice_get (cell_infos us) k ≡ Some i → (x : ℕ) → x ≡ m + k → x < length vars) → Each (λ x. x < length vars) (flat_map cell_variables (cell_contents m us))
    go [] m f = tt
    go (u ∷ us) m f = (f 0 (info sort.Cell u) refl m (omega arith), go us (suc m) (λ k i e x g. f (suc k) i e x (omega (arith, g))))

pub no_cells_given : (ts : List ValueType) → (list_all (λ (i : VarInfo). not (is_given_sort i.sort)) (cell_infos ts) ≡ true) × (are_inputs_words (cell_infos ts) ≡ true) × (list_all (λ (i : VarInfo). not (is_made_sort i.sort)) (cell_infos ts) ≡ true)
no_cells_given [] = (refl, refl, refl)
no_cells_given (t ∷ ts) = let r = no_cells_given ts in (r.0, r.1, r.2)

-- ---- commands

module _ (j : JobTree) (s : State) (well_typed : WellTyped j.types s) (complete : CompleteAt j s) where
  complete_with : (c : Conj) → GoodConj s.vars s.pure c → CompleteAt j (assumed c s)
  complete_with c g = complete_assumed j.types j.body.parameters s.vars s.pure s.pre s.atoms c (conj_grown s.vars s.vars (λ x i e. e) s.pure (assume s.vars s.pure c) (assume_more s.vars s.pure c) c g) complete

  -- ---- accesses

  pub record UsesFully (a : Access) : Type 0 where
    pub null : (t : State) → CompleteAt j t → CompleteAt j (a.null t).state
    pub freed : (t : State) → CompleteAt j t → CompleteAt j (a.freed t).state
    pub live : (n : ℕ) (cells : List Content) (t : State) → CompleteAt j t → CompleteAt j (a.live n cells t).state

  module _ (a : Access) (block : TypeId) (used : UsesFully a) where
    state_complete : (n : ℕ) (st : AtomState) (t : State) → CompleteAt j t → CompleteAt j (use_state a n st t).state
    state_complete n (Live cells) t h = used.live n cells t h
    state_complete n Freed t h = used.freed t h

    abbrev P : PlaceOf → Way → Type 1
    P p w = CompleteDone j (access_done j.types block a p w s)

    atom_place : (b : Atom) → GoodAtom j.types s.vars s.pure b → Good s.vars s.pure (Place (place.Var b.place))
    atom_place b g = let (i, at, t) = variable_is s.vars _ b.place.0 g.points in (pointer_from i at t, g.usable)
      where
        by : (t : ValueType) → same_type t (Pointer b.block) ≡ true → is_pointer_type t ≡ true
        by Int e = cc
        by (Pointer u) e = refl

        pointer_from : (i : VarInfo) → slice_get s.vars b.place.0 ≡ Some i → same_type i.value (Pointer b.block) ≡ true → is_pointer s.vars b.place.0 ≡ true
        pointer_from i at t = ap (λ (o : Option VarInfo). is_some_and o (λ (k : VarInfo). is_pointer_type k.value)) at ∙ by i.value t

    atom_complete : (p : PlaceOf) → Good s.vars s.pure (Place p) → (n : ℕ) (b : Atom) → slice_get s.atoms n ≡ Some b → P p (way.Atom n)
    atom_complete p g n b e =
        let c = conjunct.SamePlace p (place.Var b.place) in
        (tt, subst (λ o. CompleteAt j (reach_atom a p n o s).state) (sym e) (state_complete n b.state (assumed c s) (complete_with c (g, atom_place b (each_get _ s.atoms n b well_typed.atoms e)))))

    not_made : (b : Bool) → not b ≡ true → b ≡ false
    not_made true e = cc
    not_made false e = refl

    missing_complete : (p : PlaceOf) (b : Bool) → is_place_of s.vars block p ≡ true → Good s.vars s.pure (Place p) → may_be_missing s.vars p ≡ b → Each1 (P p) (missing_ways b)
    missing_complete p false t g e = tt
    missing_complete place.Null true t g e = cc
    missing_complete (place.Var x) true t g e =
        let ts = block_cells j.types block in
        let new = cell_infos ts in
        let vars = s.vars ++ new in
        let n = length s.vars in
        let m = atom_of x block (Live (cell_contents n ts)) in
        let f = atom_of x block Freed in
        let parts = and_parts (is_pointer s.vars x.0) (not (is_made s.vars x.0)) e in
        let unmade = not_made (is_made s.vars x.0) parts.1 in
        let (i, at, q) = variable_is s.vars _ x.0 t in
        let unmade' : is_made vars x.0 ≡ false = same_grown s.vars vars (grown_by s.vars new) (λ (k : VarInfo). is_made_sort k.sort) x.0 i at ∙ unmade in
        let cells = own_cells s.pure s.vars ts vars n refl refl in
        let plain = no_cells_given ts in
        let found_m : GoodFound j.types vars s.pure m =
        record { points = with_grown s.vars vars (grown_by s.vars new) _ x.0 t; usable = usable_grown s.vars vars (grown_by s.vars new) s.pure s.pure (λ y d. d) x.0 i at g.1; fits = cells.0 } in
        let only : cells_of (m ∷ []) ≡ flat_map cell_variables (cell_contents n ts) = append-nil (flat_map cell_variables (cell_contents n ts)) in
        let live : CompleteAt j (meet_live j.types block x s) =
        complete_met j.types j.body.parameters s.vars s.pure s.pre s.atoms well_typed.atoms new m plain.0 plain.1 plain.2 parts.0 unmade' unmade found_m
        (λ y l. ap (times y) only ∙ numbers_old n ts y l) (λ k i d u y h. ap (times y) only ∙ numbers_new n ts k i d y h)
        (subst (Each (λ y. y < length vars)) (sym only) (numbers_below s.vars ts vars n refl refl)) complete in
        let nil = append-nil s.vars in
        let found_f : GoodFound j.types s.vars s.pure f = record { points = t; usable = g.1; fits = refl } in
        let freed : CompleteAt j (meet_freed block x s) =
        subst (λ vs. Complete j.types j.body.parameters vs s.pure (s.pre ++ f ∷ []) (s.atoms ++ f ∷ [])) nil
        (complete_met j.types j.body.parameters s.vars s.pure s.pre s.atoms well_typed.atoms [] f refl refl refl parts.0 (ap (λ vs. is_made vs x.0) nil ∙ unmade) unmade (subst (λ vs. GoodFound j.types vs s.pure f) (sym nil) found_f)
        (λ y l. refl) (λ k i d u y h. absent d) tt complete) in (
          (tt, subst (λ o. CompleteAt j (use_atom a n' o (meet_live j.types block x s)).state) (sym (get_last s.atoms m)) (state_complete n' m.state (meet_live j.types block x s) live)),
          ((tt, subst (λ o. CompleteAt j (use_atom a n' o (meet_freed block x s)).state) (sym (get_last s.atoms f)) (state_complete n' f.state (meet_freed block x s) freed)), tt),
        )
      where
        n' : ℕ
        n' = length s.atoms

    access_complete : (p : PlaceOf) → is_place_of s.vars block p ≡ true → Good s.vars s.pure (Place p) → Each1 (P p) (access_ways s block p)
    access_complete p t g =
        let such : Atom → Bool = λ b. nat_eq b.block.0 block.0 && may_be_at s.vars p b in
        let null = conjunct.SamePlace p place.Null in
        each1_append (P p) (listed_if (is_open s.vars null) way.Null ++ atom_ways (numbers_of (λ n (b : Atom). such b) 0 s.atoms)) (missing_ways (may_be_missing s.vars p))
        (each1_append (P p) (listed_if (is_open s.vars null) way.Null) (atom_ways (numbers_of (λ n (b : Atom). such b) 0 s.atoms))
        (each1_if (P p) (is_open s.vars null) way.Null (λ opened. (tt, used.null (assumed null s) (complete_with null (g, tt)))))
        (each_atom (P p) such 0 s.atoms s.atoms (λ n b e y. atom_complete p g n b e) (λ i b e m is. let q : i ≡ m = omega arith in subst (λ z. slice_get s.atoms z ≡ Some b) q e)))
        (missing_complete p (may_be_missing s.vars p) t g refl)

    content_complete : (content : Content) → Good s.vars s.pure content →
        Each1 (λ w. CompleteDone j (through_place (on s) (accessed s.vars block content) (λ p. access_done j.types block a p w s))) (through_place [] (accessed s.vars block content) (access_ways s block))
    content_complete Unwritten g = tt
    content_complete (Word p) g = tt
    content_complete (Cell x) g = tt
    content_complete (Place p) g = by (is_place_of s.vars block p) refl
      where
        by : (q : Bool) → is_place_of s.vars block p ≡ q → Each1 (λ w. CompleteDone j (through_place (on s) (elim q as (λ _. Option PlaceOf) [ true ↦ Some p | false ↦ None ]) (λ p. access_done j.types block a p w s)))
            (through_place [] (elim q as (λ _. Option PlaceOf) [ true ↦ Some p | false ↦ None ]) (access_ways s block))
        by true e = access_complete p e g
        by false e = tt

    pointer_complete : (at : Operand) (fits : Bool) → Good s.vars s.pure (operand_content s at) →
        Each1 (λ w. CompleteDone j (through_place (on s) (accessed s.vars block (operand_content s at)) (λ p. access_done j.types block a p w s))) (pointer_ways s block at fits)
    pointer_complete at false g = tt
    pointer_complete at true g = content_complete (operand_content s at) g

  -- ---- all commands

  same_complete : (o : Option Content) (to : ℕ) (op : Operator) → CompleteAt j (assign_done to (terms_of o (made_terms op)) o s).state
  same_complete None to op = complete
  same_complete (Some c) to op = complete

  leaving_complete : (o : Option (Site × ℕ)) → CompleteAt j (leaving o s).state
  leaving_complete None = complete
  leaving_complete (Some l) = complete

  return_complete : (o : Option (Option Content)) → CompleteAt j (return_done o s).state
  return_complete None = complete
  return_complete (Some r) = complete

  read_complete : (slot : ℕ) (site : Site) (c : Content) → Good s.vars s.pure c → Each1 (λ w. CompleteDone j (read_done slot site c w s)) (read_ways s.vars c)
  read_complete slot site Unwritten g = ((tt, complete), tt)
  read_complete slot site (Word p) g = ((tt, complete), tt)
  read_complete slot site (Place a) g = ((tt, complete), tt)
  read_complete slot site (Cell x) g = by (nat_lt x.0 (length s.vars)) refl
    where
      written : (o : Option VarInfo) → x.0 < length s.vars → CompleteAt j (read_cell slot x o s).state
      written None l = complete
      written (Some i) l = complete_assumed j.types j.body.parameters s.vars s.pure s.pre s.atoms (conjunct.Written x) (l, written_usable s.vars s.pure x) complete

      by : (b : Bool) → nat_lt x.0 (length s.vars) ≡ b → Each1 (λ w. CompleteDone j (read_done slot site (Cell x) w s)) (elim b as (λ _. List Way) [ true ↦ way.Written ∷ way.Unwritten ∷ [] | false ↦ [] ])
      by false e = tt
      by true e =
          let l : x.0 < length s.vars = ltb-true x.0 (length s.vars) e in
          ((tt, written (slice_get s.vars x.0) l), ((tt, complete_assumed j.types j.body.parameters s.vars s.pure s.pre s.atoms (conjunct.Unwritten x) l complete), tt))

  test_complete : (to : ℕ) (how : Comparison) (a b : Operand) (site : Site) → IsInRange a → IsInRange b → Each1 (λ w. CompleteDone j (act_done j (test to how a b site) w s)) (command_ways j s (test to how a b site))
  test_complete to how a b site ra rb =
      let P : Way → Type 1 = λ w. CompleteDone j (act_done j (test to how a b site) w s) in
      let ga = operand_good j.types s a well_typed ra in
      let gb = operand_good j.types s b well_typed rb in
      each1_append P (open_if s.vars (condition how (operand_content s a) (operand_content s b)) way.Then) (open_if s.vars (contrary how (operand_content s a) (operand_content s b)) way.Else)
      (opened (condition how (operand_content s a) (operand_content s b)) way.Then P (λ c e.
      (tt, subst (λ o. CompleteAt j (test_done to site o (contrary how (operand_content s a) (operand_content s b)) way.Then s).state) (sym e) (complete_with c (condition_conj s.vars s.pure how (operand_content s a) (operand_content s b) c e ga gb)))))
      (opened (contrary how (operand_content s a) (operand_content s b)) way.Else P (λ c e.
      (tt, subst (λ o. CompleteAt j (test_done to site (condition how (operand_content s a) (operand_content s b)) o way.Else s).state) (sym e) (complete_with c (contrary_conj s.vars s.pure how (operand_content s a) (operand_content s b) c e ga gb)))))
    where
      opened : (o : Option Conj) (w : Way) (P : Way → Type 1) → ((c : Conj) → o ≡ Some c → P w) → Each1 P (open_if s.vars o w)
      opened None w P f = tt
      opened (Some c) w P f = each1_if P (is_open s.vars c) w (λ t. f c refl)

  malloc_complete : (to : ℕ) (block : TypeId) (site : Site) → CompleteAt j (malloc_done j.types to block site way.Made s).state
  malloc_complete to block site =
      let i = info sort.Made (Pointer block) in
      let a = atom_of (record { 0 = length s.vars }) block (Live (map (λ _. Unwritten) (block_cells j.types block))) in
      complete_made j.types j.body.parameters s.vars s.pure s.pre s.atoms well_typed.atoms i a refl refl (ap (λ (o : Option VarInfo). is_some_and o (λ (k : VarInfo). is_made_sort k.sort)) (get_next s.vars i)) complete

  input_complete : (to : ℕ) (site : Site) → CompleteAt j (act_done j (input to site) way.On s).state
  input_complete to site =
      let i = info sort.Input Int in
      let x = length s.vars in
      let vars = s.vars ++ i ∷ [] in
      let low = conjunct.AtMost (number (negsuc 0)) (variable x) in
      let high = conjunct.AtMost (variable x) (number (pos 255)) in
      let pure1 = assume vars s.pure low in
      let at : slice_get vars x ≡ Some i = get_next s.vars i in
      let word : (pure : List Conj) → UsableWord vars pure x = λ pure. (ap (λ (o : Option VarInfo). is_some_and o (λ (k : VarInfo). is_int_type k.value)) at, other_usable vars pure x i at refl) in
      let complete1 = complete_variables j.types j.body.parameters s.vars s.pure s.pre s.atoms well_typed.atoms (i ∷ []) refl refl refl refl complete in
      let complete2 = complete_assumed j.types j.body.parameters vars s.pure s.pre s.atoms low (tt, (word pure1, tt)) complete1 in
      complete_assumed j.types j.body.parameters vars pure1 s.pre s.atoms high ((word (assume vars pure1 high), tt), tt) complete2

  quotient_complete : (to : ℕ) (p q : Polynomial) (o : Option Content) → Good s.vars s.pure (Word p) → Good s.vars s.pure (Word q) → CompleteAt j (quotient_by to p q o (assumed (conjunct.Unequal q) s))
  quotient_complete to p q None gp gq =
      let i = info sort.Input Int in
      let x = length s.vars in
      let vars = s.vars ++ i ∷ [] in
      let is_quotient = conjunct.Quotient (record { 0 = x }) p q in
      let pure1 = assume s.vars s.pure (conjunct.Unequal q) in
      let pure2 = assume vars pure1 is_quotient in
      let at : slice_get vars x ≡ Some i = get_next s.vars i in
      let is : is_input vars x ≡ true = ap (λ (o : Option VarInfo). is_some_and o (λ (k : VarInfo). is_input_sort k.sort)) at in
      let word : UsableWord vars pure2 x = (ap (λ (o : Option VarInfo). is_some_and o (λ (k : VarInfo). is_int_type k.value)) at, other_usable vars pure2 x i at refl) in
      let grown = good_grown s.vars vars (grown_by s.vars (i ∷ [])) s.pure pure2 (λ y d. assume_more vars pure1 is_quotient y (assume_more s.vars s.pure (conjunct.Unequal q) y d)) in
      let atoms = (well_typed_assumed j.types s (conjunct.Unequal q) well_typed).atoms in
      let complete1 = complete_variables j.types j.body.parameters s.vars pure1 s.pre s.atoms atoms (i ∷ []) refl refl refl refl (complete_with (conjunct.Unequal q) gq.1) in
      complete_assumed j.types j.body.parameters vars pure1 s.pre s.atoms is_quotient (is, word, (grown (Word p) gp).1, (grown (Word q) gq).1) complete1
  quotient_complete to p q (Some c) gp gq = complete_with (conjunct.Unequal q) gq.1

  divide_complete : (to : ℕ) (site : Site) (a b : Content) → Good s.vars s.pure a → Good s.vars s.pure b → Each1 (λ w. CompleteDone j (divide_done to site a b w s)) (divide_ways s.vars a b)
  divide_complete to site (Word p) (Word q) gp gq =
      let P : Way → Type 1 = λ w. CompleteDone j (words_divided to site w s p q) in
      let divisible = is_open s.vars (conjunct.Unequal q) && (is_long p || is_int_polynomial s.vars p) in
      each1_append P (listed_if (is_open s.vars (conjunct.Equal q)) way.ByZero) (listed_if divisible way.Divided)
      (each1_if P (is_open s.vars (conjunct.Equal q)) way.ByZero (λ e. (tt, complete_with (conjunct.Equal q) gq.1)))
      (each1_if P divisible way.Divided (λ e. (tt, quotient_complete to p q (constant_quotient (word_of p) (word_of q)) gp gq)))
  divide_complete to site (Word p) Unwritten ga gb = tt
  divide_complete to site (Word p) (Place b) ga gb = tt
  divide_complete to site (Word p) (Cell y) ga gb = tt
  divide_complete to site Unwritten b ga gb = tt
  divide_complete to site (Place a) b ga gb = tt
  divide_complete to site (Cell x) b ga gb = tt

  pub command_complete : (c : CommandTree) → KeepsToRange c → Each1 (λ w. CompleteDone j (act_done j c w s)) (command_ways j s c)
  command_complete (assign to op a b) r =
      each1_if (λ w. CompleteDone j (act_done j (assign to op a b) w s)) (is_some (operation op (operand_content s a) (operand_content s b))) way.On (λ e. (tt, same_complete (operation op (operand_content s a) (operand_content s b)) to op))
  command_complete (unset to) r = ((tt, complete), tt)
  command_complete (read slot site) r = read_complete slot site (content_at s.slots slot) (content_good s.vars s.pure s.slots slot well_typed.slots)
  command_complete (test to how a b site) r = test_complete to how a b site r.0 r.1
  command_complete (choose slot first second) r = each1_if (λ w. CompleteDone j (act_done j (choose slot first second) w s)) (is_some (outcome_of (content_at s.slots slot))) way.On (λ e. (tt, complete))
  command_complete (loop site head body step) r = ((tt, complete), tt)
  command_complete leave r = each1_if (λ w. CompleteDone j (act_done j leave w s)) (is_some (last_loop s.loops)) way.On (λ e. (tt, leaving_complete (last_loop s.loops)))
  command_complete (load to at field block site) r = pointer_complete (load_access to field.0 site) block (record { null = λ t h. h; freed = λ t h. h; live = λ n cells t h. h }) at (is_some (field_type j block field.0)) (operand_good j.types s at well_typed r)
  command_complete (store at field block from site) r =
      pointer_complete (store_access field.0 (operand_content s from) site) block
      (record { null = λ t h. h; freed = λ t h. h; live = λ n cells t h. complete_changed j.types j.body.parameters t.vars t.pure t.pre t.atoms n (Live (slice_set cells field.0 (operand_content s from))) h })
      at (is_some_and (field_type j block field.0) (λ t. fits_cell s.vars t (operand_content s from))) (operand_good j.types s at well_typed r.0)
  command_complete (malloc to block site) r = by (slice_get j.types block.0)
    where
      by : (o : Option BlockType) → Each1 (λ w. CompleteDone j (act_done j (malloc to block site) w s)) (malloc_ways o)
      by None = tt
      by (Some b) = ((tt, complete), ((tt, malloc_complete to block site), tt))
  command_complete (free at block site) r =
      pointer_complete (free_access site) block (record { null = λ t h. h; freed = λ t h. h; live = λ n cells t h. complete_changed j.types j.body.parameters t.vars t.pure t.pre t.atoms n Freed h }) at (is_some (slice_get j.types block.0)) (operand_good j.types s at well_typed r)
  command_complete (input to site) r = ((tt, input_complete to site), tt)
  command_complete (call to proc arguments site) r = each1_if (λ w. CompleteDone j (act_done j (call to proc arguments site) w s)) (list_all is_argument (argument_contents s arguments)) way.On (λ e. (tt, complete))
  command_complete (return from) r = each1_if (λ w. CompleteDone j (act_done j (return from) w s)) (is_some (returned s j.body.result from)) way.On (λ e. (tt, return_complete (returned s j.body.result from)))
  command_complete break r = each1_if (λ w. CompleteDone j (act_done j break w s)) (is_some (last_loop s.loops)) way.On (λ e. (tt, complete))
  command_complete continue r = each1_if (λ w. CompleteDone j (act_done j continue w s)) (is_some (last_loop s.loops)) way.On (λ e. (tt, complete))
  command_complete (stop number site) r = ((tt, complete), tt)
  command_complete (divide to a b site) r = divide_complete to site (operand_content s a) (operand_content s b) (operand_good j.types s a well_typed r.0) (operand_good j.types s b well_typed r.1)

-- ---- the start

none_given : (ts : List ValueType) → are_inputs_words (given_variables ts) ≡ true
none_given [] = refl
none_given (t ∷ ts) = none_given ts

only_given : (such : VarInfo → Bool) → ((t : ValueType) → such (info sort.Given t) ≡ false) → (ts : List ValueType) (x : ℕ) (i : VarInfo) → slice_get (given_variables ts) x ≡ Some i → such i ≡ true → ⊥
only_given such f [] x i e t = absent e
only_given such f (u ∷ ts) zero i e t = let g : such i ≡ false = ap such (sym (same_Some _ _ e)) ∙ f u in let d : true ≡ false = sym t ∙ g in cc
only_given such f (u ∷ ts) (suc x) i e t = only_given such f ts x i e t

pub start_complete : (j : JobTree) → CompleteAt j (start_of j.body)
start_complete j = record {
  more = [];
  split = sym (append-nil (given_variables j.body.parameters));
  others = refl;
  words = none_given j.body.parameters;
  conjuncts = tt;
  found = tt;
  cells = λ x i e t. absurd (only_given (λ i. is_cell_sort i.sort) (λ t. refl) j.body.parameters x i e t);
  below = tt;
  reached = refl;
  blocks = refl;
  made = λ x i e t. absurd (only_given (λ i. is_made_sort i.sort) (λ t. refl) j.body.parameters x i e t);
}
