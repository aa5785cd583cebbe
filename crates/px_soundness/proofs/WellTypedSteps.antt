-- Each way of a command keeps a state well-typed.
use Rattle.std.proofs.Common.{◌≡◌, ℕ, zero, suc, Bool, true, false, not, cond, nat_eq, nat_lt, ◌&&◌, ◌||◌, Option, Some, None, List, [], ◌∷◌, ◌++◌, map, length, pos, negsuc, get_or, slice_get, slice_set, refl, sym, ap, ◌∙◌, subst, arith}
use Rattle.std.specs.Prelude.{All, is_some, int_div, FitsSigned}
use Rattle.std.specs.Int.{w32, int_wrap}
use Rattle.std.specs.List.{list_all, list_any}
use Rattle.std.proofs.lemmas.Bool.{and_parts, and_from, eqb-true, eq-eqb, ltb-true, or_right}
use Rattle.std.proofs.lemmas.Int.{SFits-int_wrap}
use Rattle.std.proofs.lemmas.Option.{slice_get-get_or, same_Some}
use Rattle.px_base.specs.declared.trace.Site.{Site}
use Rattle.px_base.specs.declared.trace.MarkKind.{MarkKind}
use Rattle.px_base.specs.declared.trace.MarkKind.TheVariants as mark
use Rattle.px_terms.specs.Types.{types_of}
use Rattle.px_terms.specs.Words.{signed}
use Rattle.px_terms.specs.Polynomials.{Polynomial, terms_of as sum_terms, negated, pairs, sum_of, difference_of, product_of}
use Rattle.px_terms.specs.Variables.{variables_of}
use Rattle.px_terms.specs.Substitutions.{variable}
use Rattle.px_terms.specs.Valuations.{Valuation, IsWord}
use Rattle.px_terms.specs.declared.types.Value.TheVariants as value
use Rattle.px_terms.specs.declared.types.TypeId.{TypeId}
use Rattle.px_terms.specs.declared.types.BlockType.{BlockType}
use Rattle.px_terms.specs.declared.types.ValueType.{ValueType}
use Rattle.px_terms.specs.declared.types.ValueType.TheVariants.{Int, Pointer}
use Rattle.px_terms.specs.declared.variables.Var.{Var}
use Rattle.px_terms.specs.declared.variables.VarInfo.{VarInfo}
use Rattle.px_terms.specs.declared.variables.Sort.TheVariants as sort
use Rattle.px_terms.specs.declared.conjuncts.Place.{Place as PlaceOf}
use Rattle.px_terms.specs.declared.conjuncts.Place.TheVariants as place
use Rattle.px_terms.specs.declared.conjuncts.Content.{Content}
use Rattle.px_terms.specs.declared.conjuncts.Content.TheVariants.{Unwritten, Word, Place, Cell}
use Rattle.px_terms.specs.declared.conjuncts.Conj.{Conj}
use Rattle.px_terms.specs.declared.conjuncts.Conj.TheVariants as conjunct
use Rattle.px_terms.proofs.NormalForm.{form_polynomial}
use Rattle.px_terms.proofs.TermWords.{sum_words, difference_words, product_words}
use Rattle.px_core.specs.declared.command.Operand.{Operand}
use Rattle.px_core.specs.declared.command.Operator.{Operator}
use Rattle.px_core.specs.declared.command.Operator.TheVariants.{Copy, Neg, Add, Sub, Mul}
use Rattle.px_core.specs.declared.command.Comparison.{Comparison}
use Rattle.px_core.specs.CommandTree.{CommandTree, CommandTrees, assign, unset, read, test, choose, loop, leave, load, store, malloc, free, input, call, return, break, continue, stop, divide}
use Rattle.px_core.specs.Constants.{IsInRange, KeepsToRange}
use Rattle.px_entry.specs.declared.atoms.Atom.{Atom}
use Rattle.px_entry.specs.declared.atoms.AtomState.{AtomState}
use Rattle.px_entry.specs.declared.atoms.AtomState.TheVariants.{Live, Freed}
use Rattle.px_entry.specs.Sorts.{is_cell_sort, is_made_sort, is_int_type, is_pointer_type, same_type, is_some_and, is_cell, is_made, is_int, is_int_polynomial, is_pointer, is_long, has_type, is_place_of}
use Rattle.px_entry.specs.Equality.{same_conjunct}
use Rattle.px_entry.specs.Decided.{word_of, is_open, assume, stands_in}
use Rattle.px_entry.specs.Cases.{may_be_at, may_be_missing, numbers_of}
use Rattle.px_entry.specs.Contents.{fits_cell, fit_each, variable_content}
use Rattle.px_entry.specs.Regular.{is_said_written, points_to_block, fits_state, state_cells}
use Rattle.px_entry.proofs.Lists.{Each, each_all, all_each}
use Rattle.px_callgraph.specs.declared.states.State.{State}
use Rattle.px_callgraph.specs.declared.states.Way.{Way}
use Rattle.px_callgraph.specs.declared.states.Way.TheVariants as way
use Rattle.px_callgraph.specs.JobTree.{JobTree}
use Rattle.px_callgraph.specs.States.{on, content_at, operand_content, number, set_slot, marked, assumed, info, with_variables}
use Rattle.px_callgraph.specs.Operations.{operation, made_terms, condition, contrary}
use Rattle.px_callgraph.specs.Accesses.{listed_if, atom_ways, missing_ways, access_ways, accessed, cell_infos, block_cells, cell_contents, atom_of, meet_live, meet_freed, Access, load_access, store_access, free_access, use_state, use_atom, reach_atom, access_done}
use Rattle.px_callgraph.specs.Commands.{read_ways, read_cell, read_done, open_if, test_done, outcome_of, last_loop, leaving, malloc_ways, malloc_done, input_done, constant_quotient, quotient_by, divide_ways, words_divided, divide_done, field_type, returned, return_done, through_place, pointer_ways, is_argument, argument_contents, terms_of, assign_done, command_ways, act_done}
use Rattle.px_soundness.proofs.WellFormed.{is_usable, UsableWord, Good, GoodAtom, WellTyped}
use Rattle.px_soundness.proofs.AtomHeaps.{absent}
use Rattle.px_soundness.proofs.Truths.{variable_is}
use Rattle.px_soundness.proofs.Contents.{number_good}
use Rattle.px_soundness.proofs.WellTyped.{Grown, SaysMore, fits_grown, good_grown, each_set, each_get, grown_by, with_grown, same_grown, usable_grown, assume_more, well_typed_assumed, well_typed_variables, well_typed_slot, well_typed_atom, well_typed_met, well_typed_changed, found_own, new_own, variable_form, get_next, type_itself, own_cells}
use Rattle.px_soundness.proofs.Sound.{Each1, each1_append, each1_if}
use Rattle.px_soundness.proofs.PlainSteps.{content_good, operand_good, some_from}
use Rattle.px_soundness.proofs.BlockSteps.{get_last, each_atom, over}
use Rattle.px_soundness.proofs.Divisions.{constant_cases}
use Rattle.px_callgraph.proofs.KeepLemmas.{each_weaker}

-- ---- results of operators

module _ (vars : List VarInfo) (pure : List Conj) where
  usable_both : ℕ → Bool
  usable_both x = is_int vars x && is_usable vars pure x

  -- a valuation in which exactly the usable words are words
  words_of_usable : Valuation
  unfolding usable_both
  words_of_usable x = cond (usable_both x) (value.Word (pos 0)) value.Null

  to_words : (xs : List ℕ) → Each (UsableWord vars pure) xs → All (λ x. IsWord (words_of_usable x)) xs
  unfolding words_of_usable usable_both
  to_words xs h = each_all (λ x. IsWord (words_of_usable x)) xs (each_weaker (UsableWord vars pure) (λ x. IsWord (words_of_usable x)) (λ x u. by x (is_int vars x && is_usable vars pure x) (and_from _ _ u.0 u.1)) xs h)
    where
      by : (x : ℕ) (b : Bool) → b ≡ true → IsWord (cond b (value.Word (pos 0)) value.Null)
      by x true e = tt
      by x false e = cc

  from_words : (xs : List ℕ) → All (λ x. IsWord (words_of_usable x)) xs → Each (UsableWord vars pure) xs
  unfolding words_of_usable usable_both
  from_words xs h = each_weaker (λ x. IsWord (words_of_usable x)) (UsableWord vars pure) (λ x w. and_parts (is_int vars x) (is_usable vars pure x) (by (is_int vars x && is_usable vars pure x) w)) xs (all_each (λ x. IsWord (words_of_usable x)) xs h)
    where
      by : (b : Bool) → IsWord (cond b (value.Word (pos 0)) value.Null) → b ≡ true
      by true w = refl
      by false w = absurd w

  abbrev G : Content → Type 0
  G = Good vars pure

  pub sum_good : (p q : Polynomial) → G (Word p) → G (Word q) → G (Word (sum_of p q))
  sum_good p q g h = (form_polynomial (sum_terms p ++ sum_terms q), from_words (variables_of (sum_of p q)) (sum_words words_of_usable p q (to_words (variables_of p) g.1) (to_words (variables_of q) h.1)))

  pub difference_good : (p q : Polynomial) → G (Word p) → G (Word q) → G (Word (difference_of p q))
  difference_good p q g h =
      (form_polynomial (sum_terms p ++ map negated (sum_terms q)), from_words (variables_of (difference_of p q)) (difference_words words_of_usable p q (to_words (variables_of p) g.1) (to_words (variables_of q) h.1)))

  pub product_good : (p q : Polynomial) → G (Word p) → G (Word q) → G (Word (product_of p q))
  product_good p q g h = (form_polynomial (pairs (sum_terms p) (sum_terms q)), from_words (variables_of (product_of p q)) (product_words words_of_usable p q (to_words (variables_of p) g.1) (to_words (variables_of q) h.1)))

  zero_good : G (Word (number (pos 0)))
  zero_good = number_good vars pure (pos 0) (omega arith)

  operation_good : (op : Operator) (a b c : Content) → G a → G b → operation op a b ≡ Some c → G c
  operation_good Copy a b c g h e = subst G (same_Some _ _ e) g
  operation_good Neg (Word p) b c g h e = subst G (same_Some _ _ e) (difference_good (number (pos 0)) p zero_good g)
  operation_good Neg Unwritten b c g h e = absent e
  operation_good Neg (Place a) b c g h e = absent e
  operation_good Neg (Cell x) b c g h e = absent e
  operation_good Add (Word p) (Word q) c g h e = subst G (same_Some _ _ e) (sum_good p q g h)
  operation_good Add (Word p) Unwritten c g h e = absent e
  operation_good Add (Word p) (Place b) c g h e = absent e
  operation_good Add (Word p) (Cell y) c g h e = absent e
  operation_good Add Unwritten b c g h e = absent e
  operation_good Add (Place a) b c g h e = absent e
  operation_good Add (Cell x) b c g h e = absent e
  operation_good Sub (Word p) (Word q) c g h e = subst G (same_Some _ _ e) (difference_good p q g h)
  operation_good Sub (Word p) Unwritten c g h e = absent e
  operation_good Sub (Word p) (Place b) c g h e = absent e
  operation_good Sub (Word p) (Cell y) c g h e = absent e
  operation_good Sub Unwritten b c g h e = absent e
  operation_good Sub (Place a) b c g h e = absent e
  operation_good Sub (Cell x) b c g h e = absent e
  operation_good Mul (Word p) (Word q) c g h e = subst G (same_Some _ _ e) (product_good p q g h)
  operation_good Mul (Word p) Unwritten c g h e = absent e
  operation_good Mul (Word p) (Place b) c g h e = absent e
  operation_good Mul (Word p) (Cell y) c g h e = absent e
  operation_good Mul Unwritten b c g h e = absent e
  operation_good Mul (Place a) b c g h e = absent e
  operation_good Mul (Cell x) b c g h e = absent e

-- ---- variables as contents

pub variable_good : (vars : List VarInfo) (pure : List Conj) (x : ℕ) (i : VarInfo) → slice_get vars x ≡ Some i → is_usable vars pure x ≡ true → Good vars pure (variable_content i.value x)
variable_good vars pure x i e u = by i.value refl
  where
    by : (t : ValueType) → i.value ≡ t → Good vars pure (variable_content t x)
    by Int is = (variable_form x, ((ap (λ (o : Option VarInfo). is_some_and o (λ (k : VarInfo). is_int_type k.value)) e ∙ ap is_int_type is, u), tt))
    by (Pointer t) is = (ap (λ (o : Option VarInfo). is_some_and o (λ (k : VarInfo). is_pointer_type k.value)) e ∙ ap is_pointer_type is, u)

-- what is assumed to be written is said to be, and usable
pub written_said : (vars : List VarInfo) (pure : List Conj) (x : Var) → is_said_written (assume vars pure (conjunct.Written x)) x.0 ≡ true
written_said vars pure x = by (stands_in pure (conjunct.Written x)) refl
  where
    last : (cs : List Conj) → list_any (same_conjunct (conjunct.Written x)) (cs ++ conjunct.Written x ∷ []) ≡ true
    last [] = ap (λ q. q || false) (eq-eqb x.0 x.0 refl)
    last (c ∷ cs) = ap (λ q. same_conjunct (conjunct.Written x) c || q) (last cs) ∙ or_right (same_conjunct (conjunct.Written x) c) true refl

    by : (q : Bool) → stands_in pure (conjunct.Written x) ≡ q → is_said_written (elim q as (λ _. List Conj) [ true ↦ pure | false ↦ pure ++ conjunct.Written x ∷ [] ]) x.0 ≡ true
    by true is = is
    by false is = last pure

pub written_usable : (vars : List VarInfo) (pure : List Conj) (x : Var) → is_usable vars (assume vars pure (conjunct.Written x)) x.0 ≡ true
written_usable vars pure x = ap (λ q. not (is_cell vars x.0) || q) (written_said vars pure x) ∙ or_right (not (is_cell vars x.0)) true refl

-- what is no cell's is usable
pub other_usable : (vars : List VarInfo) (pure : List Conj) (x : ℕ) (i : VarInfo) → slice_get vars x ≡ Some i → is_cell_sort i.sort ≡ false → is_usable vars pure x ≡ true
other_usable vars pure x i e c = ap (λ q. not q || is_said_written pure x) (ap (λ (o : Option VarInfo). is_some_and o (λ (k : VarInfo). is_cell_sort k.sort)) e ∙ c)

-- ---- commands

-- each way keeps the state well-typed
abbrev pub KeepsWellTyped : JobTree → List BlockType → CommandTree → State → Type 1
KeepsWellTyped j types c s = Each1 (λ w. Unit {1} × WellTyped types (act_done j c w s).state) (command_ways j s c)

module _ (j : JobTree) (types : List BlockType) (s : State) (well_typed : WellTyped types s) where
  same_parts : (slots : List Content) (trace : _) (loops : _) (steps : ℕ) → Each (Good s.vars s.pure) slots → WellTyped types (record s { slots = slots; trace = trace; loops = loops; steps = steps })
  same_parts slots trace loops steps h = record { slots = h; atoms = well_typed.atoms; own = well_typed.own }

  well_typed_assign : (to : ℕ) (op : Operator) (a b : Operand) → IsInRange a → IsInRange b → KeepsWellTyped j types (assign to op a b) s
  well_typed_assign to op a b ra rb =
      each1_if (λ w. Unit {1} × WellTyped types (act_done j (assign to op a b) w s).state) (is_some (operation op (operand_content s a) (operand_content s b))) way.On (λ some.
      let (c, e) = some_from (operation op (operand_content s a) (operand_content s b)) some in (
        tt,
        subst (λ o. WellTyped types (assign_done to (terms_of o (made_terms op)) o s).state) (sym e)
            (well_typed_slot types s to c (operation_good s.vars s.pure op (operand_content s a) (operand_content s b) c (operand_good types s a well_typed ra) (operand_good types s b well_typed rb) e) well_typed),
      ))

  well_typed_read : (slot : ℕ) (site : Site) → KeepsWellTyped j types (read slot site) s
  well_typed_read slot site = by (content_at s.slots slot)
    where
      cell : (x : Var) (b : Bool) → nat_lt x.0 (length s.vars) ≡ b → Each1 (λ w. Unit {1} × WellTyped types (read_done slot site (Cell x) w s).state) (elim b as (λ _. List Way) [ true ↦ way.Written ∷ way.Unwritten ∷ [] | false ↦ [] ])
      cell x false e = tt
      cell x true e =
          let i : VarInfo = get_or s.vars x.0 (info sort.Given Int) in
          let is : slice_get s.vars x.0 ≡ Some i = slice_get-get_or s.vars x.0 (info sort.Given Int) (ltb-true x.0 (length s.vars) e) in (
            (
              tt,
              subst (λ (o : Option VarInfo). WellTyped types (read_cell slot x o s).state) (sym is)
                  (well_typed_slot types (assumed (conjunct.Written x) s) slot (variable_content i.value x.0) (variable_good s.vars (assume s.vars s.pure (conjunct.Written x)) x.0 i is (written_usable s.vars s.pure x)) (well_typed_assumed types s (conjunct.Written x) well_typed)),
            ),
            ((tt, well_typed_assumed types s (conjunct.Unwritten x) well_typed), tt),
          )

      by : (c : Content) → Each1 (λ w. Unit {1} × WellTyped types (read_done slot site c w s).state) (read_ways s.vars c)
      by Unwritten = ((tt, well_typed), tt)
      by (Word p) = ((tt, well_typed), tt)
      by (Place a) = ((tt, well_typed), tt)
      by (Cell x) = cell x (nat_lt x.0 (length s.vars)) refl

  well_typed_test : (to : ℕ) (how : Comparison) (a b : Operand) (site : Site) → KeepsWellTyped j types (test to how a b site) s
  well_typed_test to how a b site =
      let P : Way → Type 1 = λ w. Unit {1} × WellTyped types (act_done j (test to how a b site) w s).state in
      each1_append P (open_if s.vars (condition how (operand_content s a) (operand_content s b)) way.Then) (open_if s.vars (contrary how (operand_content s a) (operand_content s b)) way.Else)
      (opened (condition how (operand_content s a) (operand_content s b)) way.Then P (λ c e. (tt, subst (λ o. WellTyped types (test_done to site o (contrary how (operand_content s a) (operand_content s b)) way.Then s).state) (sym e) (outcome mark.Then 1 c (omega arith)))))
      (opened (contrary how (operand_content s a) (operand_content s b)) way.Else P (λ c e. (tt, subst (λ o. WellTyped types (test_done to site (condition how (operand_content s a) (operand_content s b)) o way.Else s).state) (sym e) (outcome mark.Else 0 c (omega arith)))))
    where
      opened : (o : Option Conj) (w : Way) (P : Way → Type 1) → ((c : Conj) → o ≡ Some c → P w) → Each1 P (open_if s.vars o w)
      opened None w P f = tt
      opened (Some c) w P f = each1_if P (is_open s.vars c) w (λ t. f c refl)

      outcome : (kind : MarkKind) (n : ℕ) (c : Conj) → FitsSigned w32 (pos n) → WellTyped types (set_slot to (Word (number (pos n))) (assumed c (marked kind site s)))
      outcome kind n c f =
          let u = well_typed_assumed types s c well_typed in
          record { slots = each_set _ s.slots to (Word (number (pos n))) u.slots (number_good s.vars (assume s.vars s.pure c) (pos n) f); atoms = u.atoms; own = u.own }

  well_typed_choose : (slot : ℕ) (first second : CommandTrees) → KeepsWellTyped j types (choose slot first second) s
  well_typed_choose slot first second = each1_if (λ w. Unit {1} × WellTyped types (act_done j (choose slot first second) w s).state) (is_some (outcome_of (content_at s.slots slot))) way.On (λ e. (tt, well_typed))

  leaving_well_typed : (o : Option (Site × ℕ)) → WellTyped types (leaving o s).state
  leaving_well_typed None = well_typed
  leaving_well_typed (Some l) = record { slots = well_typed.slots; atoms = well_typed.atoms; own = well_typed.own }

  return_well_typed : (o : Option (Option Content)) → WellTyped types (return_done o s).state
  return_well_typed None = well_typed
  return_well_typed (Some r) = well_typed

  -- ---- accesses

  pub record UsesTidily (a : Access) (block : TypeId) : Type 0 where
    pub null : (vars : List VarInfo) (pure : List Conj) (pre atoms : List Atom) → WellTyped types (over s vars pure pre atoms) → WellTyped types (a.null (over s vars pure pre atoms)).state
    pub freed : (vars : List VarInfo) (pure : List Conj) (pre atoms : List Atom) → WellTyped types (over s vars pure pre atoms) → WellTyped types (a.freed (over s vars pure pre atoms)).state
    pub live : (vars : List VarInfo) (pure : List Conj) (pre atoms : List Atom) (n : ℕ) (b : Atom) (cells : List Content) → slice_get atoms n ≡ Some b → b.block.0 ≡ block.0 → b.state ≡ Live cells →
        Grown s.vars vars → SaysMore s.pure pure → WellTyped types (over s vars pure pre atoms) → WellTyped types (a.live n cells (over s vars pure pre atoms)).state

  module _ (a : Access) (block : TypeId) (used : UsesTidily a block) where
    state_well_typed : (vars : List VarInfo) (pure : List Conj) (pre atoms : List Atom) (n : ℕ) (b : Atom) (st : AtomState) → slice_get atoms n ≡ Some b → b.block.0 ≡ block.0 → b.state ≡ st →
        Grown s.vars vars → SaysMore s.pure pure → WellTyped types (over s vars pure pre atoms) → WellTyped types (use_state a n st (over s vars pure pre atoms)).state
    state_well_typed vars pure pre atoms n b (Live cells) e same is grown said h = used.live vars pure pre atoms n b cells e same is grown said h
    state_well_typed vars pure pre atoms n b Freed e same is grown said h = used.freed vars pure pre atoms h

    abbrev P : PlaceOf → Way → Type 1
    P p w = Unit {1} × WellTyped types (access_done types block a p w s).state

    atom_well_typed : (p : PlaceOf) (n : ℕ) (b : Atom) → slice_get s.atoms n ≡ Some b → (nat_eq b.block.0 block.0 && may_be_at s.vars p b) ≡ true → P p (way.Atom n)
    atom_well_typed p n b e t =
        let q = and_parts (nat_eq b.block.0 block.0) (may_be_at s.vars p b) t in
        let c = conjunct.SamePlace p (place.Var b.place) in (
          tt,
          subst (λ o. WellTyped types (reach_atom a p n o s).state) (sym e)
              (state_well_typed s.vars (assume s.vars s.pure c) s.pre s.atoms n b b.state e (eqb-true b.block.0 block.0 q.0) refl (λ x i g. g) (assume_more s.vars s.pure c) (well_typed_assumed types s c well_typed)),
        )

    met_good : (more : List VarInfo) (x : Var) (st : AtomState) → Grown s.vars more → has_type s.vars (Pointer block) x.0 ≡ true → is_usable s.vars s.pure x.0 ≡ true →
        fits_state (fits_cell more) (types_of (slice_get types block.0)) st ≡ true → Each (Good more s.pure) (state_cells st) → GoodAtom types more s.pure (atom_of x block st)
    met_good more x st grown t u f g =
        let (i, at, q) = variable_is s.vars _ x.0 t in
        record { points = with_grown s.vars more grown _ x.0 t; usable = usable_grown s.vars more grown s.pure s.pure (λ y e. e) x.0 i at u; fits = f; cells = g }

    missing_well_typed : (p : PlaceOf) (b : Bool) → is_place_of s.vars block p ≡ true → Good s.vars s.pure (Place p) → may_be_missing s.vars p ≡ b → Each1 (P p) (missing_ways b)
    missing_well_typed p false t g e = tt
    missing_well_typed place.Null true t g e = cc
    missing_well_typed (place.Var x) true t g e =
        let ts = block_cells types block in
        let new = cell_infos ts in
        let m = atom_of x block (Live (cell_contents (length s.vars) ts)) in
        let f = atom_of x block Freed in
        let not_made : is_made s.vars x.0 ≡ false = made_not (is_made s.vars x.0) (and_parts (is_pointer s.vars x.0) (not (is_made s.vars x.0)) e).1 in
        let (i, at, q) = variable_is s.vars _ x.0 t in
        let not_made' : is_made (s.vars ++ new) x.0 ≡ false = same_grown s.vars (s.vars ++ new) (grown_by s.vars new) (λ (k : VarInfo). is_made_sort k.sort) x.0 i at ∙ not_made in
        let cells = own_cells s.pure s.vars ts (s.vars ++ new) (length s.vars) refl refl in
        let s1 : State = record s { vars = s.vars ++ new } in
        let well_typed1 : WellTyped types s1 = well_typed_variables types s new well_typed in
        let live : WellTyped types (meet_live types block x s) = well_typed_met types s1 m (met_good (s.vars ++ new) x m.state (grown_by s.vars new) t g.1 cells.1 cells.2) (found_own types (s.vars ++ new) s.pure m s.atoms not_made') well_typed1 in
        let freed : WellTyped types (meet_freed block x s) = well_typed_met types s f (met_good s.vars x Freed (λ y k d. d) t g.1 refl tt) (found_own types s.vars s.pure f s.atoms not_made) well_typed in (
          (
            tt,
            subst (λ o. WellTyped types (use_atom a (length s.atoms) o (meet_live types block x s)).state) (sym (get_last s.atoms m))
                (state_well_typed (s.vars ++ new) s.pure (s.pre ++ m ∷ []) (s.atoms ++ m ∷ []) (length s.atoms) m m.state (get_last s.atoms m) refl refl (grown_by s.vars new) (λ y d. d) live),
          ),
          (
            (
              tt,
              subst (λ o. WellTyped types (use_atom a (length s.atoms) o (meet_freed block x s)).state) (sym (get_last s.atoms f))
                  (state_well_typed s.vars s.pure (s.pre ++ f ∷ []) (s.atoms ++ f ∷ []) (length s.atoms) f f.state (get_last s.atoms f) refl refl (λ y k d. d) (λ y d. d) freed),
            ),
            tt,
          ),
        )
      where
        made_not : (b : Bool) → not b ≡ true → b ≡ false
        made_not true e = cc
        made_not false e = refl

    access_well_typed : (p : PlaceOf) → is_place_of s.vars block p ≡ true → Good s.vars s.pure (Place p) → Each1 (P p) (access_ways s block p)
    access_well_typed p t g =
        let such : Atom → Bool = λ b. nat_eq b.block.0 block.0 && may_be_at s.vars p b in
        let null = conjunct.SamePlace p place.Null in
        each1_append (P p) (listed_if (is_open s.vars null) way.Null ++ atom_ways (numbers_of (λ n (b : Atom). such b) 0 s.atoms)) (missing_ways (may_be_missing s.vars p))
        (each1_append (P p) (listed_if (is_open s.vars null) way.Null) (atom_ways (numbers_of (λ n (b : Atom). such b) 0 s.atoms))
        (each1_if (P p) (is_open s.vars null) way.Null (λ opened. (tt, used.null s.vars (assume s.vars s.pure null) s.pre s.atoms (well_typed_assumed types s null well_typed))))
        (each_atom (P p) such 0 s.atoms s.atoms (atom_well_typed p) (λ i b e m is. let q : i ≡ m = omega arith in subst (λ z. slice_get s.atoms z ≡ Some b) q e)))
        (missing_well_typed p (may_be_missing s.vars p) t g refl)

    content_well_typed : (content : Content) → Good s.vars s.pure content →
        Each1 (λ w. Unit {1} × WellTyped types (through_place (on s) (accessed s.vars block content) (λ p. access_done types block a p w s)).state) (through_place [] (accessed s.vars block content) (access_ways s block))
    content_well_typed Unwritten g = tt
    content_well_typed (Word p) g = tt
    content_well_typed (Cell x) g = tt
    content_well_typed (Place p) g = by (is_place_of s.vars block p) refl
      where
        by : (q : Bool) → is_place_of s.vars block p ≡ q → Each1 (λ w. Unit {1} × WellTyped types (through_place (on s) (elim q as (λ _. Option PlaceOf) [ true ↦ Some p | false ↦ None ]) (λ p. access_done types block a p w s)).state)
            (through_place [] (elim q as (λ _. Option PlaceOf) [ true ↦ Some p | false ↦ None ]) (access_ways s block))
        by true e = access_well_typed p e g
        by false e = tt

    pub pointer_well_typed : (jt : JobTree) → jt.types ≡ types → (at : Operand) (fits : Bool) → Good s.vars s.pure (operand_content s at) → Each1 (λ w. Unit {1} × WellTyped types (through_place (on s) (accessed s.vars block (operand_content s at)) (λ p. access_done types block a p w s)).state) (pointer_ways s block at fits)
    pointer_well_typed jt same at false g = tt
    pointer_well_typed jt same at true g = content_well_typed (operand_content s at) g

  load_well_typed : (to field : ℕ) (site : Site) (block : TypeId) → UsesTidily (load_access to field site) block
  load_well_typed to field site block = record {
    null = λ vars pure pre atoms h. record { slots = h.slots; atoms = h.atoms; own = h.own };
    freed = λ vars pure pre atoms h. record { slots = h.slots; atoms = h.atoms; own = h.own };
    live = λ vars pure pre atoms n b cells e same is grown said h.
        record { slots = each_set _ s.slots to (content_at cells field) h.slots (content_good vars pure cells field (subst (λ st. Each (Good vars pure) (state_cells st)) is (each_get _ atoms n b h.atoms e).cells)); atoms = h.atoms; own = h.own };
  }

  free_well_typed : (site : Site) (block : TypeId) → UsesTidily (free_access site) block
  free_well_typed site block = record {
    null = λ vars pure pre atoms h. record { slots = h.slots; atoms = h.atoms; own = h.own };
    freed = λ vars pure pre atoms h. record { slots = h.slots; atoms = h.atoms; own = h.own };
    live = λ vars pure pre atoms n b cells e same is grown said h.
        let u = well_typed_changed types (over s vars pure pre atoms) n b Freed e refl tt h in record { slots = u.slots; atoms = u.atoms; own = u.own };
  }

  fit_set : (vars : List VarInfo) (ts : List ValueType) (cs : List Content) (n : ℕ) (t : ValueType) (c : Content) → slice_get ts n ≡ Some t → fits_cell vars t c ≡ true → fit_each (fits_cell vars) ts cs ≡ true →
      fit_each (fits_cell vars) ts (slice_set cs n c) ≡ true
  fit_set vars [] [] n t c e f h = h
  fit_set vars [] (d ∷ cs) n t c e f h = cc
  fit_set vars (u ∷ ts) [] n t c e f h = cc
  fit_set vars (u ∷ ts) (d ∷ cs) zero t c e f h = let b = and_parts (fits_cell vars u d) (fit_each (fits_cell vars) ts cs) h in and_from _ _ (subst (λ x. fits_cell vars x c ≡ true) (sym (same_Some _ _ e)) f) b.1
  fit_set vars (u ∷ ts) (d ∷ cs) (suc n) t c e f h = let b = and_parts (fits_cell vars u d) (fit_each (fits_cell vars) ts cs) h in and_from _ _ b.0 (fit_set vars ts cs n t c e f b.1)

  store_well_typed : (field : ℕ) (c : Content) (site : Site) (block : TypeId) (t : ValueType) → slice_get (block_cells types block) field ≡ Some t → fits_cell s.vars t c ≡ true → Good s.vars s.pure c → UsesTidily (store_access field c site) block
  store_well_typed field c site block t cell f g = record {
    null = λ vars pure pre atoms h. record { slots = h.slots; atoms = h.atoms; own = h.own };
    freed = λ vars pure pre atoms h. record { slots = h.slots; atoms = h.atoms; own = h.own };
    live = λ vars pure pre atoms n b cells e same is grown said h.
        let old = each_get _ atoms n b h.atoms e in
        let old_fits : fit_each (fits_cell vars) (types_of (slice_get types block.0)) cells ≡ true =
        subst (λ st. fits_state (fits_cell vars) (types_of (slice_get types block.0)) st ≡ true) is (subst (λ z. fits_state (fits_cell vars) (types_of (slice_get types z)) b.state ≡ true) same old.fits) in
        let new_fits : fit_each (fits_cell vars) (types_of (slice_get types b.block.0)) (slice_set cells field c) ≡ true =
        subst (λ z. fit_each (fits_cell vars) (types_of (slice_get types z)) (slice_set cells field c) ≡ true) (sym same) (fit_set vars (block_cells types block) cells field t c cell (fits_grown s.vars vars grown t c f) old_fits) in
        let u = well_typed_changed types (over s vars pure pre atoms) n b (Live (slice_set cells field c)) e new_fits
        (each_set _ cells field c (subst (λ st. Each (Good vars pure) (state_cells st)) is old.cells) (good_grown s.vars vars grown s.pure pure said c g)) h in
        record { slots = u.slots; atoms = u.atoms; own = u.own };
  }

  -- ---- new blocks and inputs

  unwritten_fit : (vars : List VarInfo) (pure : List Conj) (ts : List ValueType) → (fit_each (fits_cell vars) ts (map (λ _. Unwritten) ts) ≡ true) × Each (Good vars pure) (map (λ _. Unwritten) ts)
  unwritten_fit vars pure [] = (refl, tt)
  unwritten_fit vars pure (t ∷ ts) = let r = unwritten_fit vars pure ts in (r.0, (tt, r.1))

  malloc_well_typed : (to : ℕ) (block : TypeId) (site : Site) → WellTyped types (malloc_done types to block site way.Made s).state
  malloc_well_typed to block site =
      let i = info sort.Made (Pointer block) in
      let x = length s.vars in
      let vars = s.vars ++ i ∷ [] in
      let a = atom_of (record { 0 = x }) block (Live (map (λ _. Unwritten) (block_cells types block))) in
      let at : slice_get vars x ≡ Some i = get_next s.vars i in
      let usable : is_usable vars s.pure x ≡ true = other_usable vars s.pure x i at refl in
      let cells = unwritten_fit vars s.pure (block_cells types block) in
      let s1 : State = record s { vars = vars } in
      let well_typed1 : WellTyped types s1 = well_typed_variables types s (i ∷ []) well_typed in
      let points : points_to_block vars a ≡ true = ap (λ (o : Option VarInfo). is_some_and o (λ (k : VarInfo). same_type k.value (Pointer block))) at ∙ type_itself (Pointer block) in
      let u = well_typed_atom types s1 a (record { points = points; usable = usable; fits = cells.0; cells = cells.1 }) (new_own types s.vars vars s.pure a s.atoms refl well_typed.atoms) well_typed1 in
      record { slots = each_set _ s.slots to (variable_content (Pointer block) x) u.slots (variable_good vars s.pure x i at usable); atoms = u.atoms; own = u.own }

  input_well_typed : (to : ℕ) (site : Site) → WellTyped types (input_done to site s).state
  input_well_typed to site =
      let i = info sort.Input Int in
      let x = length s.vars in
      let vars = s.vars ++ i ∷ [] in
      let low = conjunct.AtMost (number (negsuc 0)) (variable x) in
      let high = conjunct.AtMost (variable x) (number (pos 255)) in
      let pure1 = assume vars s.pure low in
      let pure2 = assume vars pure1 high in
      let well_typed1 : WellTyped types (record s { vars = vars }) = well_typed_variables types s (i ∷ []) well_typed in
      let well_typed2 : WellTyped types (record s { vars = vars; pure = pure1 }) = well_typed_assumed types (record s { vars = vars }) low well_typed1 in
      let u : WellTyped types (record s { vars = vars; pure = pure2 }) = well_typed_assumed types (record s { vars = vars; pure = pure1 }) high well_typed2 in
      let at : slice_get vars x ≡ Some i = get_next s.vars i in
      record { slots = each_set _ s.slots to (Word (variable x)) u.slots (variable_good vars pure2 x i at (other_usable vars pure2 x i at refl)); atoms = u.atoms; own = u.own }

  -- ---- divisions

  quotient_well_typed : (to : ℕ) (p q : Polynomial) (o : Option Content) → constant_quotient (word_of p) (word_of q) ≡ o → WellTyped types (quotient_by to p q o (assumed (conjunct.Unequal q) s))
  quotient_well_typed to p q None e =
      let i = info sort.Input Int in
      let x = length s.vars in
      let s1 : State = assumed (conjunct.Unequal q) s in
      let s2 : State = with_variables (i ∷ []) s1 in
      let s3 : State = assumed (conjunct.Quotient (record { 0 = x }) p q) s2 in
      let u : WellTyped types s3 = well_typed_assumed types s2 (conjunct.Quotient (record { 0 = x }) p q) (well_typed_variables types s1 (i ∷ []) (well_typed_assumed types s (conjunct.Unequal q) well_typed)) in
      let at : slice_get s2.vars x ≡ Some i = get_next s.vars i in
      well_typed_slot types s3 to (Word (variable x)) (variable_good s2.vars s3.pure x i at (other_usable s2.vars s3.pure x i at refl)) u
  quotient_well_typed to p q (Some c) e =
      let (m, n, one, two, other, same) = constant_cases (word_of p) (word_of q) c e in
      let s1 : State = assumed (conjunct.Unequal q) s in
      well_typed_slot types s1 to c
      (subst (Good s1.vars s1.pure) same (number_good s1.vars s1.pure (int_wrap w32 (int_div (signed m) (signed n))) (SFits-int_wrap w32 (int_div (signed m) (signed n)))))
      (well_typed_assumed types s (conjunct.Unequal q) well_typed)

  divide_well_typed : (to : ℕ) (site : Site) (a b : Content) → Each1 (λ w. Unit {1} × WellTyped types (divide_done to site a b w s).state) (divide_ways s.vars a b)
  divide_well_typed to site (Word p) (Word q) =
      let P : Way → Type 1 = λ w. Unit {1} × WellTyped types (words_divided to site w s p q).state in
      let divisible = is_open s.vars (conjunct.Unequal q) && (is_long p || is_int_polynomial s.vars p) in
      each1_append P (listed_if (is_open s.vars (conjunct.Equal q)) way.ByZero) (listed_if divisible way.Divided)
      (each1_if P (is_open s.vars (conjunct.Equal q)) way.ByZero (λ e. (tt, well_typed_assumed types s (conjunct.Equal q) well_typed)))
      (each1_if P divisible way.Divided (λ e. (tt, quotient_well_typed to p q (constant_quotient (word_of p) (word_of q)) refl)))
  divide_well_typed to site (Word p) Unwritten = tt
  divide_well_typed to site (Word p) (Place b) = tt
  divide_well_typed to site (Word p) (Cell y) = tt
  divide_well_typed to site Unwritten b = tt
  divide_well_typed to site (Place a) b = tt
  divide_well_typed to site (Cell x) b = tt

-- ---- all commands

module _ (j : JobTree) (s : State) (well_typed : WellTyped j.types s) where
  same_well_typed : (slots : List Content) (trace : _) (loops : _) → Each (Good s.vars s.pure) slots → WellTyped j.types (record s { slots = slots; trace = trace; loops = loops })
  same_well_typed slots trace loops h = record { slots = h; atoms = well_typed.atoms; own = well_typed.own }

  pub command_well_typed : (c : CommandTree) → KeepsToRange c → KeepsWellTyped j j.types c s
  command_well_typed (assign to op a b) r = well_typed_assign j j.types s well_typed to op a b r.0 r.1
  command_well_typed (unset to) r = ((tt, well_typed_slot j.types s to Unwritten tt well_typed), tt)
  command_well_typed (read slot site) r = well_typed_read j j.types s well_typed slot site
  command_well_typed (test to how a b site) r = well_typed_test j j.types s well_typed to how a b site
  command_well_typed (choose slot first second) r = well_typed_choose j j.types s well_typed slot first second
  command_well_typed (loop site head body step) r = ((tt, record { slots = well_typed.slots; atoms = well_typed.atoms; own = well_typed.own }), tt)
  command_well_typed leave r = each1_if (λ w. Unit {1} × WellTyped j.types (act_done j leave w s).state) (is_some (last_loop s.loops)) way.On (λ e. (tt, leaving_well_typed j j.types s well_typed (last_loop s.loops)))
  command_well_typed (load to at field block site) r =
      pointer_well_typed j j.types s well_typed (load_access to field.0 site) block (load_well_typed j j.types s well_typed to field.0 site block) j refl at (is_some (field_type j block field.0)) (operand_good j.types s at well_typed r)
  command_well_typed (store at field block from site) r = by (field_type j block field.0) refl
    where
      by : (o : Option ValueType) → field_type j block field.0 ≡ o → Each1 (λ w. Unit {1} × WellTyped j.types (act_done j (store at field block from site) w s).state) (pointer_ways s block at (is_some_and o (λ t. fits_cell s.vars t (operand_content s from))))
      by None e = tt
      by (Some t) e = fitting (fits_cell s.vars t (operand_content s from)) refl
        where
          fitting : (q : Bool) → fits_cell s.vars t (operand_content s from) ≡ q → Each1 (λ w. Unit {1} × WellTyped j.types (act_done j (store at field block from site) w s).state) (pointer_ways s block at q)
          fitting false f = tt
          fitting true f =
              pointer_well_typed j j.types s well_typed (store_access field.0 (operand_content s from) site) block (store_well_typed j j.types s well_typed field.0 (operand_content s from) site block t e f (operand_good j.types s from well_typed r.1)) j refl at true
              (operand_good j.types s at well_typed r.0)
  command_well_typed (malloc to block site) r = by (slice_get j.types block.0)
    where
      by : (o : Option BlockType) → Each1 (λ w. Unit {1} × WellTyped j.types (act_done j (malloc to block site) w s).state) (malloc_ways o)
      by None = tt
      by (Some b) = ((tt, record { slots = each_set _ s.slots to (Place place.Null) well_typed.slots tt; atoms = well_typed.atoms; own = well_typed.own }), ((tt, malloc_well_typed j j.types s well_typed to block site), tt))
  command_well_typed (free at block site) r =
      pointer_well_typed j j.types s well_typed (free_access site) block (free_well_typed j j.types s well_typed site block) j refl at (is_some (slice_get j.types block.0)) (operand_good j.types s at well_typed r)
  command_well_typed (input to site) r = ((tt, input_well_typed j j.types s well_typed to site), tt)
  command_well_typed (call to proc arguments site) r =
      each1_if (λ w. Unit {1} × WellTyped j.types (act_done j (call to proc arguments site) w s).state) (list_all is_argument (argument_contents s arguments)) way.On (λ e. (tt, record { slots = well_typed.slots; atoms = well_typed.atoms; own = well_typed.own }))
  command_well_typed (return from) r = each1_if (λ w. Unit {1} × WellTyped j.types (act_done j (return from) w s).state) (is_some (returned s j.body.result from)) way.On (λ e. (tt, return_well_typed j j.types s well_typed (returned s j.body.result from)))
  command_well_typed break r = each1_if (λ w. Unit {1} × WellTyped j.types (act_done j break w s).state) (is_some (last_loop s.loops)) way.On (λ e. (tt, record { slots = well_typed.slots; atoms = well_typed.atoms; own = well_typed.own }))
  command_well_typed continue r = each1_if (λ w. Unit {1} × WellTyped j.types (act_done j continue w s).state) (is_some (last_loop s.loops)) way.On (λ e. (tt, well_typed))
  command_well_typed (stop number site) r = ((tt, well_typed), tt)
  command_well_typed (divide to a b site) r = divide_well_typed j j.types s well_typed to site (operand_content s a) (operand_content s b)
