-- A call is entered, and an entry of the callee is chosen.
use Rattle.std.proofs.Common.{◌≡◌, ℕ, suc, Bool, true, false, ◌&&◌, Option, Some, None, List, [], ◌∷◌, ◌++◌, length, inl, refl, sym, subst}
use Rattle.std.specs.List.{list_all, list_any}
use Rattle.std.proofs.lemmas.Bool.{and_parts}
use Rattle.std.proofs.lemmas.Option.{same_Some}
use Rattle.px_base.specs.declared.trace.Site.{Site}
use Rattle.px_base.specs.declared.trace.ProcId.{ProcId}
use Rattle.px_base.specs.declared.trace.Mark.{Mark}
use Rattle.px_base.specs.declared.trace.MarkKind.TheVariants as mark
use Rattle.px_terms.specs.declared.conjuncts.Content.{Content}
use Rattle.px_core.specs.declared.command.Operand.{Operand}
use Rattle.px_core.specs.CommandTree.{call}
use Rattle.px_core.specs.Constants.{AreInRange}
use Rattle.px_core.specs.Control.{Item, Act}
use Rattle.px_entry.specs.declared.atoms.Atom.{Atom}
use Rattle.px_entry.specs.declared.entries.Entry.{Entry}
use Rattle.px_entry.specs.declared.tables.Gap.{Gap}
use Rattle.px_entry.specs.Contents.{fits_cell}
use Rattle.px_entry.specs.Regular.{fits_block, state_cells, is_regular}
use Rattle.px_entry.proofs.Lists.{Each}
use Rattle.px_callgraph.specs.declared.jobs.Callee.{Callee}
use Rattle.px_callgraph.specs.declared.jobs.Callee.TheVariants as callee
use Rattle.px_callgraph.specs.declared.states.State.{State}
use Rattle.px_callgraph.specs.declared.states.Way.TheVariants as way
use Rattle.px_callgraph.specs.JobTree.{JobTree, callee_in}
use Rattle.px_callgraph.specs.States.{Outcome, marked, begun}
use Rattle.px_callgraph.specs.Commands.{is_argument, argument_contents, command_done}
use Rattle.px_callgraph.specs.Renaming.{stand_from}
use Rattle.px_callgraph.specs.Calls.{Calling, Stage, choosing, matching, unfit, entry_ways, drop_way, callee_ways, entry_in, fits_arguments, choose_entry}
use Rattle.px_callgraph.specs.declared.outcomes.StepOutcome.TheVariants.{Next}
use Rattle.px_callgraph.specs.Alternatives.{Walk, Leads, at, going_on, after_command, ways, act}
use Rattle.px_callgraph.specs.Derivations.{same_way, take_listed, take_way, then_take, take_choices, choice_way}
use Rattle.px_meaning.specs.Steps.{ProcedureCalls}
use Rattle.px_meaning.specs.Triples.{IsValid}
use Rattle.px_soundness.proofs.WellFormed.{Good, GoodAtom, WellTyped, WellFormed}
use Rattle.px_soundness.proofs.PlainSteps.{operand_good}
use Rattle.px_soundness.proofs.Sound.{Can, Sound}
use Rattle.px_soundness.proofs.Walks.{Good1}
use Rattle.px_soundness.proofs.CallPending.{Pending}
use Rattle.px_soundness.proofs.CallSteps.{chosen_stage}
use Rattle.px_soundness.proofs.CallEnds.{calling, CallCan}
use Rattle.px_soundness.proofs.CallChoices.{taken, then_taken, goes_on, possible_on, back, choices_good}
use Rattle.px_callgraph.proofs.KeepLemmas.{each_weaker}

no_on : (n : ℕ) (xs : List Entry) (gs : List Gap) → list_any (same_way way.On) (entry_ways n xs ++ drop_way gs) ≡ true → ⊥
no_on n [] [] e = let f : false ≡ true = e in cc
no_on n [] (g ∷ gs) e = let f : false ≡ true = e in cc
no_on n (x ∷ xs) gs e = no_on (suc n) xs gs e

no_callee_on : (c : Callee) → list_any (same_way way.On) (callee_ways c) ≡ true → ⊥
no_callee_on (callee.Table t) e = no_on 0 t.entries t.drops e
no_callee_on callee.Cycle e = let f : false ≡ true = e in cc
no_callee_on callee.LeftOut e = let f : false ≡ true = e in cc
no_callee_on callee.Unknown e = let f : false ≡ true = e in cc

-- nothing is listed where the entry doesn't fit
unfit_ends : (j : JobTree) (c : Calling) (k : List Item) (u : State) (cs : List ℕ) (a : Leads) → take_choices j cs (Next (going_on c k u unfit)) ≡ Some a → ⊥
unfolding ways act
unfit_ends j c k u [] a e = let (listed, there) = taken j (going_on c k u unfit) way.On a e in let f : false ≡ true = listed in cc
unfit_ends j c k u (d ∷ cs) a e =
    let (b, first, onward) = then_taken (take_choices j cs) (take_way j (choice_way d) (Next (going_on c k u unfit))) a e in
    let (listed, there) = taken j (going_on c k u unfit) (choice_way d (going_on c k u unfit)) b first in
    let f : false ≡ true = listed in cc

arguments_good : (j : JobTree) (s : State) → WellTyped j.types s → (operands : List Operand) → AreInRange operands → Each (Good s.vars s.pure) (argument_contents s operands)
arguments_good j s well_typed [] r = tt
arguments_good j s well_typed (a ∷ operands) r = (operand_good j.types s a well_typed r.0, arguments_good j s well_typed operands r.1)

module _ (j : JobTree) (calls : ProcedureCalls Mark) (s : State) (k : List Item) (to : Option ℕ) (proc : ProcId) (arguments : List Operand) (site : Site) (well_formed : WellFormed j s (Act (call to proc arguments site) ∷ k))
    (valid : (n : ℕ) (x : Entry) → entry_in (callee_in j.callees proc) n ≡ Some x → is_regular j.types (length (argument_contents s arguments)) x ≡ true → IsValid (calls proc.0) (length (argument_contents s arguments)) x) where
  abbrev range : AreInRange arguments
  range = well_formed.keeps.0.0

  abbrev args : List Content
  args = argument_contents s arguments

  abbrev C : Can
  C = CallCan j calls s k to proc arguments site

  abbrev going : Calling
  going = calling j calls s k to proc arguments site args

  -- the state after the mark
  abbrev entered : State
  entered = marked (mark.Enter proc) site (begun s)

  good : Each (Good s.vars s.pure) args
  good = arguments_good j s well_formed.well_typed arguments range

  blocks : Each (λ (b : Atom). (fits_block j.types (fits_cell s.vars) b ≡ true) × Each (Good s.vars s.pure) (state_cells b.state)) s.atoms
  blocks = each_weaker (GoodAtom j.types s.vars s.pure) _ (λ b g. (g.fits, g.cells)) s.atoms well_formed.well_typed.atoms

  pending : (x : Entry) → Pending j x entered (stand_from 0 args)
  pending x = record {
    counted = s.pure;
    well_typed = record { slots = well_formed.well_typed.slots; atoms = well_formed.well_typed.atoms; own = well_formed.well_typed.own };
    complete = well_formed.complete;
    conjuncts = well_formed.complete.conjuncts;
    more = λ z e. e;
    said = λ z e. inl e;
  }

  chosen_good : (fit : list_all is_argument args ≡ true) (n : ℕ) (o : Option Entry) → entry_in (callee_in j.callees proc) n ≡ o → (cs : List ℕ) (a : Leads) → take_choices j cs (Next (going_on going k entered (choose_entry j.types entered args o))) ≡ Some a → Good1 j C entered a
  chosen_good fit n None is cs a e = absurd (unfit_ends j going k entered cs a e)
  chosen_good fit n (Some x) is cs a e = by (is_regular j.types (length args) x && fits_arguments s.vars args x) refl e
    where
      by : (b : Bool) → (is_regular j.types (length args) x && fits_arguments s.vars args x) ≡ b →
          take_choices j cs (Next (going_on going k entered (elim b as (λ _. Stage) [ true ↦ matching x (stand_from 0 args) x.pre [] | false ↦ unfit ]))) ≡ Some a → Good1 j C entered a
      by false f e = absurd (unfit_ends j going k entered cs a e)
      by true f e =
          let r = and_parts (is_regular j.types (length args) x) (fits_arguments s.vars args x) f in
          choices_good j calls s k to proc arguments site range fit good x r.0 (valid n x is r.0) well_formed.keeps.1 well_formed.opens cs entered (stand_from 0 args) x.pre [] a
          (record { slots = refl; trace = refl; loops = refl; fewer = λ v h. h; before = λ v h g. g })
          (chosen_stage j.types entered args x r.0 r.1 good blocks) (pending x) e

  entered_good : (fit : list_all is_argument args ≡ true) (cs : List ℕ) (a : Leads) → take_choices j cs (Next (going_on going k entered choosing)) ≡ Some a → Good1 j C entered a
  unfolding ways act
  entered_good fit [] a e = let (listed, there) = taken j (going_on going k entered choosing) way.On a e in absurd (no_callee_on (callee_in j.callees proc) listed)
  entered_good fit (c ∷ cs) a e =
      let walk : Walk = going_on going k entered choosing in
      let (b, first, onward) = then_taken (take_choices j cs) (take_way j (choice_way c) (Next walk)) a e in
      let (listed, there) = taken j walk (way.Entry c) b first in
      let is : Next (going_on going k entered (choose_entry j.types entered args (entry_in (callee_in j.callees proc) c))) ≡ b = same_Some _ _ there in
      chosen_good fit c (entry_in (callee_in j.callees proc) c) refl cs a (subst (λ z. take_choices j cs z ≡ Some a) (sym is) onward)

  -- the mark and the count of steps aside, it is the state before
  before_mark : (k' : List Item) (end : State) (o : Outcome) → Sound C entered k' end o → Sound C s k' end o
  unfolding Sound
  before_mark k' end o step v further h = let (b, go) = step v further h in (record { new = b.new; pre = b.pre; holds = b.holds; keeps = b.keeps }, go)

  -- whatever a call leads to, the machine comes to by its own, and it is well-formed
  pub call_good : (cs : List ℕ) (a : Leads) → then_take (take_choices j cs) (take_listed j (at (Act (call to proc arguments site) ∷ k) s) way.On) ≡ Some a → Good1 j C s a
  unfolding ways act
  call_good cs a e =
      let (b, first, onward) = then_taken (take_choices j cs) (take_listed j (at (Act (call to proc arguments site) ∷ k) s) way.On) a e in
      let (listed, there) = taken j (at (Act (call to proc arguments site) ∷ k) s) way.On b first in
      let fit : list_all is_argument args ≡ true = possible_on (list_all is_argument args) listed in
      let is : Next (going_on going k entered choosing) ≡ b = goes_on s (command_done j (call to proc arguments site) way.On s) (after_command s (call to proc arguments site) k) b refl there in
      let (sound, stays) = entered_good fit cs a (subst (λ z. take_choices j cs z ≡ Some a) (sym is) onward) in (back C s entered before_mark a sound, stays)
