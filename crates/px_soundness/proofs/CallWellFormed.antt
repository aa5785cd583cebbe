-- The end of a call: where it leads is well-formed.
use Rattle.std.proofs.Common.{◌≡◌, ℕ, true, Option, Some, None, List, [], length, refl}
use Rattle.px_base.specs.declared.trace.MarkKind.TheVariants as mark
use Rattle.px_terms.specs.declared.conjuncts.Content.{Content}
use Rattle.px_core.specs.Control.{Item}
use Rattle.px_entry.specs.declared.entries.Entry.{Entry}
use Rattle.px_entry.specs.declared.entries.Exit.{Exit}
use Rattle.px_entry.specs.declared.entries.Exit.TheVariants as exit
use Rattle.px_entry.specs.declared.tables.LongKind.{LongKind}
use Rattle.px_entry.specs.Regular.{is_regular}
use Rattle.px_callgraph.specs.declared.states.State.{State}
use Rattle.px_callgraph.specs.JobTree.{JobTree}
use Rattle.px_callgraph.specs.Callees.{NamedIn}
use Rattle.px_callgraph.specs.States.{Done, marked}
use Rattle.px_callgraph.specs.Renaming.{Substitution}
use Rattle.px_callgraph.specs.Calls.{Calling, stand_all, result_through, keep_result, end_call, entry_terms, finish_call}
use Rattle.px_callgraph.specs.declared.outcomes.StepOutcome.TheVariants.{Next, Ends}
use Rattle.px_callgraph.specs.Alternatives.{Leads, passes, limited, leads, at}
use Rattle.px_soundness.proofs.WellFormed.{Good, WellTyped, ItemsKeep, Opens, WellFormed, WellFormedLeads}
use Rattle.px_soundness.proofs.WellTyped.{well_typed_slot}
use Rattle.px_soundness.proofs.CallStages.{Matched}
use Rattle.px_soundness.proofs.CallFinish.{done_state}
use Rattle.px_soundness.proofs.CallPending.{Pending}
use Rattle.px_soundness.proofs.CallAfter.{well_typed_after, complete_after, result_good}

limited_well_formed : (j : JobTree) (u : State) (a : Leads) (p : Option LongKind) → WellFormedLeads j a → WellFormedLeads j (limited u a p)
limited_well_formed j u a None h = h
limited_well_formed j u a (Some kind) h = tt

module _ (j : JobTree) (arguments : List Content) (x : Entry) (regular : is_regular j.types (length arguments) x ≡ true) (u : State) (σ : Substitution) (used : List ℕ) (m : Matched j.types arguments x u σ [] used) (h : Pending j x u σ)
    (c : Calling) (k : List Item) (keeps : ItemsKeep (λ f. NamedIn f j.body.commands) k) (opens : Opens k u.loops) where
  abbrev t : State
  t = done_state x σ used u

  well_typed : WellTyped j.types t
  well_typed = well_typed_after j arguments x regular u σ used m h

  kept : (o : Option ℕ) (r : Content) → Good t.vars t.pure r → WellFormed j (keep_result o r (marked mark.Leave c.site t)) k
  kept None r g = record { well_typed = record { slots = well_typed.slots; atoms = well_typed.atoms; own = well_typed.own }; complete = complete_after j arguments x regular u σ used m h; keeps = keeps; opens = opens }
  kept (Some n) r g = record {
    well_typed = well_typed_slot j.types (marked mark.Leave c.site t) n r g (record { slots = well_typed.slots; atoms = well_typed.atoms; own = well_typed.own });
    complete = complete_after j arguments x regular u σ used m h;
    keeps = keeps;
    opens = opens;
  }

  abbrev end : Exit → Done
  end e = end_call c (stand_all x σ u) x.result e (entry_terms x (stand_all x σ u)) t

  ended : (e : Exit) → WellFormedLeads j (leads u (end e) (at k))
  ended (exit.Error kind site) = limited_well_formed j u (Ends t (exit.Error kind site) None) (passes (end (exit.Error kind site))) (well_typed, refl, complete_after j arguments x regular u σ used m h)
  ended exit.Ok =
      limited_well_formed j u (Next (at k (end exit.Ok).state)) (passes (end exit.Ok)) (refl, kept c.to (result_through (stand_all x σ u) x.result) (result_good j arguments x regular u σ used m h x.result refl))

  pub finish_well_formed : WellFormedLeads j (leads u (finish_call c x σ used u) (at k))
  finish_well_formed = ended x.exit
