-- How commands end a procedure: with a good result, or in an error without one.
use Rattle.std.proofs.Common.{◌≡◌, ℕ, Bool, true, false, Option, Some, None, List, length, slice_get, refl, sym, subst}
use Rattle.std.proofs.lemmas.Option.{same_Some}
use Rattle.px_base.specs.declared.trace.Site.{Site}
use Rattle.px_base.specs.declared.trace.MarkKind.TheVariants as mark
use Rattle.px_terms.specs.declared.types.TypeId.{TypeId}
use Rattle.px_terms.specs.declared.types.BlockType.{BlockType}
use Rattle.px_terms.specs.declared.types.ValueType.{ValueType}
use Rattle.px_terms.specs.declared.variables.VarInfo.{VarInfo}
use Rattle.px_terms.specs.declared.conjuncts.Place.{Place as PlaceOf}
use Rattle.px_terms.specs.declared.conjuncts.Place.TheVariants as place
use Rattle.px_terms.specs.Polynomials.{Polynomial}
use Rattle.px_terms.specs.declared.conjuncts.Content.{Content}
use Rattle.px_terms.specs.declared.conjuncts.Content.TheVariants.{Unwritten, Word, Place, Cell}
use Rattle.px_terms.specs.declared.conjuncts.Conj.{Conj}
use Rattle.px_terms.specs.declared.conjuncts.Conj.TheVariants.{SamePlace}
use Rattle.px_core.specs.declared.command.Operand.{Operand}
use Rattle.px_core.specs.declared.command.Operator.{Operator}
use Rattle.px_core.specs.CommandTree.{CommandTree, assign, unset, read, test, choose, loop, leave, load, store, malloc, free, input, call, return, break, continue, stop, divide}
use Rattle.px_core.specs.Constants.{KeepsToRange}
use Rattle.px_entry.specs.declared.atoms.Atom.{Atom}
use Rattle.px_entry.specs.declared.atoms.AtomState.{AtomState}
use Rattle.px_entry.specs.declared.atoms.AtomState.TheVariants.{Live, Freed}
use Rattle.px_entry.specs.Contents.{fits_cell}
use Rattle.px_callgraph.specs.declared.states.State.{State}
use Rattle.px_callgraph.specs.declared.states.Way.{Way}
use Rattle.px_callgraph.specs.declared.states.Way.TheVariants as way
use Rattle.px_callgraph.specs.JobTree.{JobTree}
use Rattle.px_callgraph.specs.States.{Done, on, content_at, operand_content, marked, assumed}
use Rattle.px_callgraph.specs.Operations.{operation, made_terms, condition, contrary}
use Rattle.px_callgraph.specs.Accesses.{Access, accessed, meet_live, meet_freed, load_access, store_access, free_access, use_state, use_atom, reach_atom, access_done}
use Rattle.px_callgraph.specs.Commands.{read_cell, read_done, test_outcome, test_done, last_loop, leaving, malloc_done, words_divided, returned, return_done, terms_of, assign_done, through_place, act_done}
use Rattle.px_callgraph.specs.Alternatives.{fallen}
use Rattle.px_soundness.proofs.WellFormed.{WellTyped, FitsResults, ResultWell, EndsWell}
use Rattle.px_soundness.proofs.AtomHeaps.{absent}
use Rattle.px_soundness.proofs.PlainSteps.{operand_good}
use Rattle.px_soundness.proofs.Divisions.{divide_cases}

abbrev pub DoneWell : JobTree → Done → Type 0
DoneWell j d = EndsWell j d.state d.outcome

module _ (j : JobTree) (s : State) where
  read_well : (slot : ℕ) (site : Site) (c : Content) (w : Way) → DoneWell j (read_done slot site c w s)
  read_well slot site Unwritten way.Written = tt
  read_well slot site (Word p) way.Written = tt
  read_well slot site (Place a) way.Written = tt
  read_well slot site (Cell x) way.Written = by (slice_get s.vars x.0)
    where
      by : (o : Option VarInfo) → DoneWell j (read_cell slot x o s)
      by None = tt
      by (Some i) = tt
  read_well slot site Unwritten way.Unwritten = refl
  read_well slot site (Word p) way.Unwritten = tt
  read_well slot site (Place a) way.Unwritten = tt
  read_well slot site (Cell x) way.Unwritten = refl
  read_well slot site c _ = tt

  outcome_well : (to n : ℕ) (o : Option Conj) (t : State) → DoneWell j (test_outcome to n o t)
  outcome_well to n None t = tt
  outcome_well to n (Some c) t = tt

  test_well : (to : ℕ) (site : Site) (a b : Option Conj) (w : Way) → DoneWell j (test_done to site a b w s)
  test_well to site a b way.Then = outcome_well to 1 a (marked mark.Then site s)
  test_well to site a b way.Else = outcome_well to 0 b (marked mark.Else site s)
  test_well to site a b _ = tt

  pub record EndsAllWell (a : Access) : Type 0 where
    pub null : (t : State) → DoneWell j (a.null t)
    pub freed : (t : State) → DoneWell j (a.freed t)
    pub live : (n : ℕ) (cells : List Content) (t : State) → DoneWell j (a.live n cells t)

  module _ (a : Access) (well : EndsAllWell a) where
    state_well : (n : ℕ) (st : AtomState) (t : State) → DoneWell j (use_state a n st t)
    state_well n (Live cells) t = well.live n cells t
    state_well n Freed t = well.freed t

    use_well : (n : ℕ) (o : Option Atom) (t : State) → DoneWell j (use_atom a n o t)
    use_well n None t = tt
    use_well n (Some b) t = state_well n b.state t

    reach_well : (p : PlaceOf) (n : ℕ) (o : Option Atom) → DoneWell j (reach_atom a p n o s)
    reach_well p n None = tt
    reach_well p n (Some b) = state_well n b.state (assumed (SamePlace p (place.Var b.place)) s)

    access_well : (types : List BlockType) (block : TypeId) (p : PlaceOf) (w : Way) → DoneWell j (access_done types block a p w s)
    access_well types block p way.Null = well.null (assumed (SamePlace p place.Null) s)
    access_well types block p (way.Atom n) = reach_well p n (slice_get s.atoms n)
    access_well types block place.Null way.MissingLive = tt
    access_well types block (place.Var x) way.MissingLive = use_well (length s.atoms) (slice_get (meet_live types block x s).atoms (length s.atoms)) (meet_live types block x s)
    access_well types block place.Null way.MissingFreed = tt
    access_well types block (place.Var x) way.MissingFreed = use_well (length s.atoms) (slice_get (meet_freed block x s).atoms (length s.atoms)) (meet_freed block x s)
    access_well types block p _ = tt

    pointer_well : (block : TypeId) (o : Option PlaceOf) (w : Way) → DoneWell j (through_place (on s) o (λ p. access_done j.types block a p w s))
    pointer_well block None w = tt
    pointer_well block (Some p) w = access_well j.types block p w

  malloc_well : (to : ℕ) (block : TypeId) (site : Site) (w : Way) → DoneWell j (malloc_done j.types to block site w s)
  malloc_well to block site way.Null = tt
  malloc_well to block site way.Made = tt
  malloc_well to block site _ = tt

  assign_well : (to : ℕ) (op : Operator) (o : Option Content) → DoneWell j (assign_done to (terms_of o (made_terms op)) o s)
  assign_well to op None = tt
  assign_well to op (Some c) = tt

  divided_well : (to : ℕ) (site : Site) (w : Way) (p q : Polynomial) → DoneWell j (words_divided to site w s p q)
  divided_well to site way.ByZero p q = refl
  divided_well to site way.Divided p q = tt
  divided_well to site _ p q = tt

  leaving_well : (o : Option (Site × ℕ)) → DoneWell j (leaving o s)
  leaving_well None = tt
  leaving_well (Some l) = tt

  module _ (well_typed : WellTyped j.types s) where
    result_well : (t : Option ValueType) → j.body.result ≡ t → (from : Option Operand) → KeepsToRange (return from) → (o : Option (Option Content)) → returned s t from ≡ o → DoneWell j (return_done o s)
    result_well t is from r None e = tt
    result_well None is None r (Some x) e = subst (ResultWell j s) (same_Some _ _ e) tt
    result_well None is (Some a) r (Some x) e = absent e
    result_well (Some t) is None r (Some x) e = subst (ResultWell j s) (same_Some _ _ e) (tt, subst (λ z. FitsResults s.vars z Unwritten) (sym is) refl)
    result_well (Some t) is (Some a) r (Some x) e = by (fits_cell s.vars t (operand_content s a)) refl e
      where
        by : (b : Bool) → fits_cell s.vars t (operand_content s a) ≡ b → (elim b as (λ _. Option (Option Content)) [ true ↦ Some (Some (operand_content s a)) | false ↦ None ]) ≡ Some x → ResultWell j s x
        by true f e = subst (ResultWell j s) (same_Some _ _ e) (operand_good j.types s a well_typed r, subst (λ z. FitsResults s.vars z (operand_content s a)) (sym is) f)
        by false f e = absent e

    -- a command ends well, whichever way it goes
    pub command_well : (c : CommandTree) (w : Way) → KeepsToRange c → DoneWell j (act_done j c w s)
    command_well (assign to op a b) w r = assign_well to op (operation op (operand_content s a) (operand_content s b))
    command_well (unset to) w r = tt
    command_well (read slot site) w r = read_well slot site (content_at s.slots slot) w
    command_well (test to how a b site) w r = test_well to site (condition how (operand_content s a) (operand_content s b)) (contrary how (operand_content s a) (operand_content s b)) w
    command_well (choose slot first second) w r = tt
    command_well (loop site head body step) w r = tt
    command_well leave w r = leaving_well (last_loop s.loops)
    command_well (load to at field block site) w r = pointer_well (load_access to field.0 site) (record { null = λ t. refl; freed = λ t. refl; live = λ n cells t. tt }) block (accessed s.vars block (operand_content s at)) w
    command_well (store at field block from site) w r =
        pointer_well (store_access field.0 (operand_content s from) site) (record { null = λ t. refl; freed = λ t. refl; live = λ n cells t. tt }) block (accessed s.vars block (operand_content s at)) w
    command_well (malloc to block site) w r = malloc_well to block site w
    command_well (free at block site) w r = pointer_well (free_access site) (record { null = λ t. tt; freed = λ t. refl; live = λ n cells t. tt }) block (accessed s.vars block (operand_content s at)) w
    command_well (input to site) w r = tt
    command_well (call to proc arguments site) w r = tt
    command_well (return from) w r = result_well j.body.result refl from r (returned s j.body.result from) refl
    command_well break w r = tt
    command_well continue w r = tt
    command_well (stop number site) w r = tt
    command_well (divide to a b site) w r = divide_cases (DoneWell j) s to site w (operand_content s a) (operand_content s b) tt (divided_well to site w)

-- so does a body that falls off its end
pub fallen_well : (j : JobTree) (s : State) → ResultWell j s (fallen j.body.result)
fallen_well j s = by j.body.result refl
  where
    by : (t : Option ValueType) → j.body.result ≡ t → ResultWell j s (fallen t)
    by None e = tt
    by (Some t) e = (tt, subst (λ z. FitsResults s.vars z Unwritten) (sym e) refl)
