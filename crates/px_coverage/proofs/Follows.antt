-- An execution that is under way at a place of a path, and what it means that it goes on along a listed way.
use Rattle.std.proofs.Common.{◌≡◌, ℕ, Bool, Option, Some, None, List, refl, subst}
use Rattle.px_terms.specs.Valuations.{Valuation}
use Rattle.px_terms.specs.declared.conjuncts.Content.{Content}
use Rattle.px_base.specs.declared.trace.Mark.{Mark}
use Rattle.px_core.specs.Control.{Item}
use Rattle.px_entry.specs.declared.entries.Exit.{Exit}
use Rattle.px_entry.specs.declared.tables.Cause.TheVariants.{Outside}
use Rattle.px_entry.specs.declared.tables.LongKind.{LongKind}
use Rattle.px_entry.specs.Standing.{contents_value}
use Rattle.px_callgraph.specs.declared.states.State.{State}
use Rattle.px_callgraph.specs.JobTree.{JobTree}
use Rattle.px_callgraph.specs.States.{Outcome, goes, ends, past, drops, Done}
use Rattle.px_callgraph.specs.declared.outcomes.StepOutcome.TheVariants.{Next, Ends, Cut, Past}
use Rattle.px_callgraph.specs.Alternatives.{Walk, Leads, passes, dropped, limited, within_limits, leads, at}
use Rattle.px_meaning.specs.Heaps.{HeapMap, join}
use Rattle.px_meaning.specs.Events.{mark_of}
use Rattle.px_meaning.specs.Steps.{Goal, ProcedureCalls}
use Rattle.px_meaning.specs.CoreCalls.{CoreProgram, Behind, Runs, CallsWithin}
use Rattle.px_meaning.specs.CoreTypes.{SlotTypes}
use Rattle.px_meaning.specs.Triples.{heap_of, ending_of}
use Rattle.px_coverage.specs.Covered.{Execution, Begins}
use Rattle.px_coverage.proofs.Stands.{Stands}
use Rattle.px_coverage.proofs.Regards.{Regards, Lowered}

module _ (P : CoreProgram) (j : JobTree) (e : Execution) (types : SlotTypes) (outcome : ℕ → Bool) where
  -- ---- the rest of the execution

  -- what holds of a step after which fewer than n are left, where this trace was seen before it
  abbrev pub Onward : ℕ → List Mark → Goal Mark
  Onward n so_far = Behind (λ k slots heap so_far. Runs mark_of (Some j.limits.unroll) P n k slots heap so_far e.trace e.ending e.after) so_far e.trace e.ending e.after

  abbrev pub Calls : ℕ → ProcedureCalls Mark
  Calls n = CallsWithin mark_of (Some j.limits.unroll) P n

  -- the state stands for what the execution has there, which goes on to its end in fewer than n steps
  pub record Going (n : ℕ) (s : State) (k : List Item) : Type 0 where
    pub regards : Regards types outcome s.vars s.slots k
    pub valuation : Valuation
    pub rest : HeapMap
    pub stands : Stands e valuation rest s.vars s.pure s.pre s.atoms
    pub runs : Runs mark_of (Some j.limits.unroll) P n k (contents_value valuation s.slots) (join (heap_of valuation s.atoms) rest) s.trace e.trace e.ending e.after

  -- the execution ends there
  pub record Ended (s : State) (exit : Exit) (result : Option Content) : Type 0 where
    pub valuation : Valuation
    pub rest : HeapMap
    pub stands : Stands e valuation rest s.vars s.pure s.pre s.atoms
    pub trace : e.trace ≡ s.trace
    pub ending : e.ending ≡ ending_of valuation exit result
    pub after : e.after ≡ join (heap_of valuation s.atoms) rest

  -- an execution that isn't followed further may go on in any way
  abbrev pub ComesTo : ℕ → State → List Item → Outcome → Type 0
  ComesTo n s k goes = Going n s k
  ComesTo n s k (ends exit result) = Ended s exit result
  ComesTo n s k past = ⊥
  ComesTo n s k (drops word) = Unit {0}

  abbrev pub Comes : ℕ → List Item → Done → Type 0
  Comes n k d = ComesTo n d.state k d.outcome

  -- the same where an act leads; where it is dropped, the execution's trace begins with that of the state before
  abbrev pub Moves : ℕ → State → Leads → Type 0
  Moves n s (Next w) = (w.call ≡ None) × Going n w.state w.control × Lowered P j types outcome w.control
  Moves n s (Ends t exit result) = Ended t exit result
  Moves n s (Cut t gap) = (t ≡ s) × Begins gap.trace e.trace
  Moves n s (Past t) = ⊥

  -- ---- limits

  module _ (n : ℕ) (s : State) (k : List Item) (lowered : Lowered P j types outcome k) (begins : Begins s.trace e.trace) where
    limited_moves : (a : Leads) (o : Option LongKind) → Moves n s a → Moves n s (limited s a o)
    limited_moves a None h = h
    limited_moves a (Some kind) h = (refl, begins)

    pub leads_moves : (d : Done) (go : State → Walk) → at k d.state ≡ go d.state → Comes n k d → Moves n s (leads s d go)
    leads_moves d go same h = by d.outcome h
      where
        by : (o : Outcome) → ComesTo n d.state k o → Moves n s (within_limits s d go o)
        by goes h = limited_moves (Next (go d.state)) (passes d) (subst (λ (w : Walk). Moves n s (Next w)) same (refl, h, lowered))
        by (ends exit result) h = limited_moves (Ends d.state exit result) (passes d) h
        by past h = absurd h
        by (drops word) h = limited_moves (dropped s (Outside word)) (passes d) (refl, begins)
