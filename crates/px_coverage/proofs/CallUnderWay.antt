-- A call that is under way: an entry of the callee is to be chosen, or one was chosen that the callee's execution is of.
use Rattle.std.proofs.Common.{◌≡◌, ℕ, suc, Bool, true, Option, Some, List, [], ◌∷◌, ◌++◌, length}
use Rattle.px_base.specs.declared.trace.Site.{Site}
use Rattle.px_base.specs.declared.trace.ProcId.{ProcId}
use Rattle.px_base.specs.declared.trace.Mark.{Mark}
use Rattle.px_base.specs.declared.trace.MarkKind.TheVariants as mark
use Rattle.px_terms.specs.Valuations.{Valuation}
use Rattle.px_terms.specs.declared.conjuncts.Content.{Content}
use Rattle.px_core.specs.declared.command.Operand.{Operand}
use Rattle.px_core.specs.CommandTree.{call}
use Rattle.px_core.specs.Control.{Item, Act}
use Rattle.px_entry.specs.declared.atoms.Atom.{Atom}
use Rattle.px_entry.specs.declared.entries.Entry.{Entry}
use Rattle.px_entry.specs.Regular.{is_regular, FitsResult}
use Rattle.px_entry.specs.Standing.{contents_value}
use Rattle.px_callgraph.specs.declared.states.State.{State}
use Rattle.px_callgraph.specs.JobTree.{JobTree}
use Rattle.px_callgraph.specs.States.{marked, begun}
use Rattle.px_callgraph.specs.Commands.{argument_contents}
use Rattle.px_callgraph.specs.Renaming.{Substitution}
use Rattle.px_callgraph.specs.Calls.{Calling, Stage, choosing, matching, unfit}
use Rattle.px_callgraph.specs.declared.outcomes.StepOutcome.TheVariants.{Next, Ends, Cut, Past}
use Rattle.px_callgraph.specs.Alternatives.{Leads}
use Rattle.px_callgraph.specs.Callees.{NamedIn}
use Rattle.px_meaning.specs.Heaps.{HeapMap, IsWellTyped, join}
use Rattle.px_meaning.specs.Events.{mark_of}
use Rattle.px_meaning.specs.Steps.{comes_back}
use Rattle.px_meaning.specs.CoreCalls.{CoreProgram}
use Rattle.px_meaning.specs.CoreTypes.{SlotTypes}
use Rattle.px_meaning.specs.Triples.{heap_of}
use Rattle.px_soundness.proofs.WellFormed.{ItemsKeep, Opens}
use Rattle.px_soundness.proofs.CallEnds.{enter_mark}
use Rattle.px_soundness.proofs.CallStages.{Matched}
use Rattle.px_soundness.proofs.CallPending.{Pending}
use Rattle.px_coverage.specs.Covered.{Execution, IsOf, Begins}
use Rattle.px_coverage.proofs.Stands.{Stands}
use Rattle.px_coverage.proofs.Regards.{Regards, Lowered}
use Rattle.px_coverage.proofs.Follows.{Onward}
use Rattle.px_coverage.proofs.Steps.{UnderWay}
use Rattle.px_coverage.proofs.CallAgrees.{Agrees}

-- a call of a procedure with these arguments
abbrev pub the_call : Option ℕ → ProcId → List Content → Site → Calling
the_call to proc contents site = record { to = to; proc = proc; arguments = contents; site = site }

module _ (P : CoreProgram) (j : JobTree) (same_types : j.types ≡ P.types) (e : Execution) (typed : IsWellTyped P.types e.before) (types : SlotTypes) (outcome : ℕ → Bool) where
  -- the mark of the call is made, and no entry is chosen yet
  pub record EnteredAt (n : ℕ) (u : State) (c : Calling) (k : List Item) : Type 0 where
    pub before : State
    pub to : Option ℕ
    pub proc : ProcId
    pub operands : List Operand
    pub site : Site
    pub under : UnderWay P j same_types e typed types outcome (suc n) before (Act (call to proc operands site) ∷ k)
    pub state : u ≡ marked (mark.Enter proc) site (begun before)
    pub is_call : c ≡ the_call to proc (argument_contents before operands) site

  -- an entry is chosen that the callee's execution is of, and the first blocks that it requires are met
  pub record MatchingAt (n : ℕ) (u : State) (c : Calling) (k : List Item) (x : Entry) (σ : Substitution) (later : List Atom) (used : List ℕ) : Type 0 where
    pub to : Option ℕ
    pub proc : ProcId
    pub operands : List Operand
    pub contents : List Content
    pub site : Site
    pub is_call : c ≡ the_call to proc contents site
    pub regular : is_regular j.types (length contents) x ≡ true
    pub result : (m : ℕ) → to ≡ Some m → FitsResult x.vars (Some (types m)) x.result
    pub matched : Matched j.types contents x u σ later used
    pub pending : Pending j x u σ
    pub keeps : ItemsKeep (λ f. NamedIn f j.body.commands) k
    pub opens : Opens k u.loops
    pub lowered : Lowered P j types outcome (Act (call to proc operands site) ∷ k)
    pub regards : Regards types outcome u.vars u.slots (Act (call to proc operands site) ∷ k)
    pub valuation : Valuation
    pub rest : HeapMap
    pub stands : Stands e valuation rest u.vars u.pure u.pre u.atoms
    pub inner : Execution
    pub is_of : IsOf inner x
    pub agrees : Agrees valuation is_of.valuation σ
    pub same : inner.before ≡ join (heap_of valuation u.atoms) rest
    pub so_far : List Mark
    pub marks : u.trace ≡ so_far ++ enter_mark proc site ∷ []
    pub back : comes_back mark_of proc to site k (contents_value valuation u.slots) inner.trace inner.after (Onward P j e types outcome n so_far) inner.ending
    pub begins : Begins u.trace e.trace

  abbrev pub InCall : ℕ → State → Calling → List Item → Stage → Type 0
  InCall n u c k choosing = EnteredAt n u c k
  InCall n u c k (matching x σ later used) = MatchingAt n u c k x σ later used
  InCall n u c k unfit = ⊥

  -- where an act of a call leads that goes on: to the next stage, or to a drop at the state before
  abbrev pub CallMoves : ℕ → State → Leads → Type 0
  CallMoves n s (Next w) = (c : Calling) × (stage : Stage) × (w.call ≡ Some (c, stage)) × InCall n w.state c w.control stage
  CallMoves n s (Ends t exit result) = ⊥
  CallMoves n s (Cut t gap) = (t ≡ s) × Begins gap.trace e.trace
  CallMoves n s (Past t) = ⊥
