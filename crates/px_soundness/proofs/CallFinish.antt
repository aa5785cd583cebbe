-- What follows the last block that is met: the entry is done, and the machine makes the call.
use Rattle.std.proofs.Common.{◌≡◌, ℕ, true, not, Option, Some, None, List, [], ◌∷◌, ◌++◌, length, slice_get, refl, ap, subst, append-nil}
use Rattle.std.specs.Prelude.{flat_map}
use Rattle.px_base.specs.declared.trace.Site.{Site}
use Rattle.px_base.specs.declared.trace.ProcId.{ProcId}
use Rattle.px_base.specs.declared.trace.Mark.{Mark}
use Rattle.px_terms.specs.Valuations.{Valuation, Fits}
use Rattle.px_terms.specs.Conjuncts.{IsTrueUnder}
use Rattle.px_terms.specs.declared.types.BlockType.{BlockType}
use Rattle.px_terms.specs.declared.variables.Var.{Var}
use Rattle.px_terms.specs.declared.variables.VarInfo.{VarInfo}
use Rattle.px_terms.specs.declared.conjuncts.Content.{Content}
use Rattle.px_terms.proofs.Agreement.{fits_fewer}
use Rattle.px_core.specs.declared.command.Operand.{Operand}
use Rattle.px_core.specs.Control.{Item}
use Rattle.px_entry.specs.declared.atoms.Atom.{Atom}
use Rattle.px_entry.specs.declared.entries.Entry.{Entry}
use Rattle.px_entry.specs.Sorts.{is_made}
use Rattle.px_entry.specs.Constraint.{found_atoms, made_atoms}
use Rattle.px_entry.specs.Regular.{state_cells, is_regular}
use Rattle.px_entry.specs.Standing.{content_value}
use Rattle.px_entry.proofs.Lists.{Each}
use Rattle.px_callgraph.specs.declared.states.State.{State}
use Rattle.px_callgraph.specs.JobTree.{JobTree}
use Rattle.px_callgraph.specs.States.{with_variables}
use Rattle.px_callgraph.specs.Renaming.{Substitution, claim_through, new_variables, stand_new}
use Rattle.px_callgraph.specs.Calls.{made_through, update_atoms, stand_all, is_possible, assume_entry, leave_atoms, add_trace, result_through, entry_terms, finish_call}
use Rattle.px_meaning.specs.Heaps.{HeapMap, join}
use Rattle.px_meaning.specs.Steps.{ProcedureCalls, WereWritten}
use Rattle.px_meaning.specs.Triples.{heap_of, values_from, result_value, ending_of, IsValid}
use Rattle.px_soundness.proofs.WellFormed.{Good}
use Rattle.px_soundness.proofs.AtomHeaps.{Placed, Within, apart_within, within_front, placed_front}
use Rattle.px_soundness.proofs.Sound.{Holds, Sound}
use Rattle.px_soundness.proofs.Through.{through, GoodSubstitution}
use Rattle.px_soundness.proofs.ClaimsThrough.{IsClaimed, assumed_claims}
use Rattle.px_soundness.proofs.FitsThrough.{Stands, fits_through}
use Rattle.px_soundness.proofs.EntryKinds.{said_in, pure_true}
use Rattle.px_soundness.proofs.ContentsThrough.{HasKind, content_is, placed_update}
use Rattle.px_soundness.proofs.EntryParts.{Parts, parts, atoms_kind, result_kind, each_filter, made_heap}
use Rattle.px_soundness.proofs.CallTaken.{AreDistinct, AreMet, call_taken}
use Rattle.px_soundness.proofs.CallMatches.{AllMet, all_met_more, are_met}
use Rattle.px_soundness.proofs.CallStands.{StandsBefore, IsNewType, stands_all, good_all}
use Rattle.px_soundness.proofs.CallEnds.{enter_mark, arguments_at, calling, CallCan, Takes, end_sound}
use Rattle.px_callgraph.proofs.KeepLemmas.{each_weaker}

-- the state after what the entry says, before the call ends
abbrev pub done_state : Entry → Substitution → List ℕ → State → State
done_state x σ used u = add_trace x.trace (leave_atoms x (stand_all x σ u) used (assume_entry x (stand_all x σ u) (with_variables (new_variables x.vars) u)))

module _ (j : JobTree) (calls : ProcedureCalls Mark) (s : State) (k : List Item) (to : Option ℕ) (proc : ProcId) (arguments : List Operand) (site : Site)
    (types : List BlockType) (n : ℕ) (x : Entry) (regular : is_regular types n x ≡ true)
    (u : State) (σ : Substitution) (used : List ℕ)
    (before : StandsBefore u.vars u.pure x.vars σ) (typed : (y : ℕ) (i : VarInfo) → slice_get x.vars y ≡ Some i → IsNewType i.sort i.value)
    (good : Each (λ (b : Var × Content). Good u.vars u.pure b.1) σ) (distinct : AreDistinct used) (met : AllMet u.vars u.pure u.atoms σ used x.pre)
    (possible : is_possible x (stand_all x σ u) u ≡ true)
    (parameters : ℕ) (valid : IsValid (calls proc.0) parameters x)
    (written : (v : Valuation) → Fits u.vars v → Each (IsTrueUnder v) u.pure → WereWritten (arguments_at j calls s k to proc arguments site v))
    (passed : (v : Valuation) → Fits u.vars v → Each (IsTrueUnder v) u.pure → values_from (through v (stand_all x σ u)) 0 parameters ≡ arguments_at j calls s k to proc arguments site v) where
  abbrev vars' : List VarInfo
  vars' = u.vars ++ new_variables x.vars

  abbrev all : Substitution
  all = stand_all x σ u

  abbrev t : State
  t = done_state x σ used u

  module _ (v : Valuation) (further : HeapMap) (h : Holds v t.vars t.pure t.atoms further) where
    both : Each (IsTrueUnder v) u.pure × Each (λ c. IsClaimed v (claim_through all c)) x.pure
    both = assumed_claims all vars' v h.fits x.pure u.pure possible h.true_of

    abbrev good_in : GoodSubstitution vars' u.pure v h.fits all
    good_in = good_all u.vars u.pure x.vars σ good

    stands : Stands vars' u.pure x.vars all
    stands = stands_all u.vars u.pure x.vars σ before typed

    fit : Fits x.vars (through v all)
    fit = fits_through vars' u.pure v h.fits both.0 x.vars all stands

    of : Parts types x
    of = parts types n x regular

    kinds : Each (λ (a : Atom). Each (HasKind (through v all)) (state_cells a.state)) x.post
    kinds = atoms_kind x (through v all) fit (λ y. said_in vars' u.pure v h.fits both.0 all good_in y x.pure both.1) types x.post of.fits of.in_post

    found_kinds : Each (λ (a : Atom). Each (HasKind (through v all)) (state_cells a.state)) (found_atoms x.vars x.post)
    found_kinds = each_weaker _ _ (λ a p. p.0) (found_atoms x.vars x.post) (each_filter (λ a. not (is_made x.vars a.place.0)) (λ a. Each (HasKind (through v all)) (state_cells a.state)) x.post kinds)

    made_is : heap_of v (flat_map (made_through all) (made_atoms x.vars x.post)) ≡ heap_of (through v all) (made_atoms x.vars x.post)
    made_is = made_heap vars' u.pure v h.fits both.0 all good_in x.vars stands (made_atoms x.vars x.post) (each_filter (λ a. is_made x.vars a.place.0) (λ a. Each (HasKind (through v all)) (state_cells a.state)) x.post kinds)

    are_there : AreMet v (through v all) u.atoms used x.pre
    are_there =
        are_met vars' u.pure u.atoms all v h.fits both.0 used x.pre
        (subst (λ as'. AllMet vars' u.pure as' all used x.pre) (append-nil u.atoms)
        (all_met_more u.vars vars' u.pure u.pure u.atoms [] σ (stand_new 0 (length u.vars) x.vars) (λ w f. fits_fewer u.vars (new_variables x.vars) w f) (λ w f e. e) used x.pre met))

    old_fits : Fits u.vars v
    old_fits = fits_fewer u.vars (new_variables x.vars) v h.fits

    placed_old : Placed v u.atoms × Within (heap_of v u.atoms) (heap_of v (update_atoms all used (found_atoms x.vars x.post) u.atoms))
    placed_old = placed_update vars' u.pure v h.fits both.0 all good_in used (found_atoms x.vars x.post) u.atoms (placed_front v (update_atoms all used (found_atoms x.vars x.post) u.atoms) (flat_map (made_through all) (made_atoms x.vars x.post)) h.placed)

    within : Within (heap_of v u.atoms) (heap_of v t.atoms)
    within m none = placed_old.1 m (within_front v (update_atoms all used (found_atoms x.vars x.post) u.atoms) (flat_map (made_through all) (made_atoms x.vars x.post)) m none)

    result_is : (r : Option Content) → x.result ≡ r → content_value v (result_through all r) ≡ result_value (through v all) r
    result_is None is = refl
    result_is (Some c) is =
        content_is vars' u.pure v h.fits both.0 all good_in c
        (result_kind x (through v all) fit (λ y. said_in vars' u.pure v h.fits both.0 all good_in y x.pure both.1) x.result of.result of.in_result c is)

    takes : Takes j calls s k to proc arguments site x all u t v further
    takes = record {
      holds = record { fits = old_fits; true_of = both.0; placed = placed_old.0; apart = apart_within (heap_of v u.atoms) (heap_of v t.atoms) further within h.apart };
      keeps = λ kept. record { placed = kept.placed; within = λ m none. kept.within m (within m none) };
      written = written v old_fits both.0;
      takes = subst (λ args. calls proc.0 args (join (heap_of v u.atoms) further) x.trace (ending_of (through v all) x.exit x.result) (join (heap_of v t.atoms) further)) (passed v old_fits both.0)
          (call_taken vars' u.pure v h.fits both.0 all good_in x fit (pure_true vars' u.pure v h.fits both.0 all good_in x fit of.sorted of.in_conjuncts both.1) of.blocks found_kinds u.atoms used distinct are_there made_is further h.placed h.apart (calls proc.0) parameters valid);
      result = result_is x.result refl;
    }

  -- the last act of a call is a call of the machine
  pub finish_sound : (contents : List Content) → u.slots ≡ s.slots → u.trace ≡ s.trace ++ enter_mark proc site ∷ [] →
      Sound (CallCan j calls s k to proc arguments site) u k (finish_call (calling j calls s k to proc arguments site contents) x σ used u).state (finish_call (calling j calls s k to proc arguments site contents) x σ used u).outcome
  finish_sound contents slots trace =
      end_sound j calls s k to proc arguments site x all u t contents (entry_terms x all) slots (ap (λ z. z ++ x.trace) trace) refl takes x.exit refl
