-- All blocks that the entry requires are met: what it says is done, and the call returns or ends in an error.
use Rattle.std.proofs.Common.{◌≡◌, ℕ, Bool, true, false, not, Option, Some, None, List, [], ◌∷◌, ◌++◌, refl, sym, ap, ap₂, ◌∙◌, subst, append_assoc, append-nil, IfSome}
use Rattle.std.proofs.lemmas.Bool.{and_parts, and_from, or_right}
use Rattle.px_base.specs.declared.trace.Mark.{Mark}
use Rattle.px_base.specs.declared.trace.MarkKind.TheVariants as mark
use Rattle.px_terms.specs.Valuations.{Valuation}
use Rattle.px_terms.specs.declared.types.Value.{Value}
use Rattle.px_terms.specs.declared.types.ValueType.{ValueType}
use Rattle.px_terms.specs.declared.variables.VarInfo.{VarInfo}
use Rattle.px_terms.specs.declared.conjuncts.Content.{Content}
use Rattle.px_core.specs.CommandTree.{call}
use Rattle.px_core.specs.Control.{Item, Act}
use Rattle.px_core.specs.WellFormedItems.{where_in, SettlesFirst}
use Rattle.px_core.specs.WellFormed.{IsWellFormed}
use Rattle.px_entry.specs.declared.atoms.AtomState.TheVariants.{Live}
use Rattle.px_entry.specs.declared.entries.Entry.{Entry}
use Rattle.px_entry.specs.declared.entries.Exit.{Exit}
use Rattle.px_entry.specs.declared.entries.Exit.TheVariants as exit
use Rattle.px_entry.specs.Sorts.{is_cell}
use Rattle.px_entry.specs.Contents.{fits_cell, content_variables}
use Rattle.px_entry.specs.Regular.{is_said_written, is_used_written, used_by_result, FitsResult}
use Rattle.px_entry.specs.Standing.{contents_value}
use Rattle.px_entry.proofs.Lists.{Each, each_append}
use Rattle.px_callgraph.specs.declared.states.State.{State}
use Rattle.px_callgraph.specs.JobTree.{JobTree}
use Rattle.px_callgraph.specs.States.{marked}
use Rattle.px_callgraph.specs.Renaming.{Substitution, new_variables}
use Rattle.px_callgraph.specs.Calls.{Calling, result_through, end_call, entry_terms, stand_all, is_possible, finish_call}
use Rattle.px_callgraph.specs.Alternatives.{leads, at}
use Rattle.px_meaning.specs.Heaps.{HeapMap, IsWellTyped}
use Rattle.px_meaning.specs.Calls.{error, Returned, Failed}
use Rattle.px_meaning.specs.Events.{mark_of}
use Rattle.px_meaning.specs.Steps.{comes_back, keep_result}
use Rattle.px_meaning.specs.CoreCalls.{CoreProgram, Runs, after}
use Rattle.px_meaning.specs.CoreTypes.{SlotTypes}
use Rattle.px_meaning.specs.Triples.{result_value, ending_of}
use Rattle.px_meaning.proofs.Determined.{after-append}
use Rattle.px_soundness.proofs.WellFormed.{WellFormedLeads}
use Rattle.px_soundness.proofs.WellTyped.{grown_by}
use Rattle.px_soundness.proofs.CallEnds.{enter_mark, leave_mark, kept_slots, kept_is, slots_are}
use Rattle.px_soundness.proofs.CallFinish.{done_state}
use Rattle.px_soundness.proofs.CallReads.{read_state}
use Rattle.px_soundness.proofs.CallStands.{stands_all}
use Rattle.px_soundness.proofs.CallAfter.{folded, folded_more, folded_said}
use Rattle.px_soundness.proofs.CallWellFormed.{finish_well_formed}
use Rattle.px_soundness.proofs.EntryParts.{Parts, parts}
use Rattle.px_coverage.specs.Covered.{Execution}
use Rattle.px_coverage.proofs.Regards.{Regards, regards_next, regards_set, regards_grown, after_lowered}
use Rattle.px_coverage.proofs.Follows.{Onward, Going, Comes, Moves, leads_moves}
use Rattle.px_coverage.proofs.NewVariables as new
use Rattle.px_coverage.proofs.EntryLeaves as leaves
use Rattle.px_coverage.proofs.CallUnderWay.{the_call, MatchingAt}

module _ (P : CoreProgram) (j : JobTree) (same_types : j.types ≡ P.types) (e : Execution) (typed : IsWellTyped P.types e.before) (types : SlotTypes) (outcome : ℕ → Bool)
    (n : ℕ) (u : State) (c : Calling) (k : List Item) (x : Entry) (σ : Substitution) (used : List ℕ) (h : MatchingAt P j same_types e typed types outcome n u c k x σ [] used) where
  abbrev w : Valuation
  w = h.is_of.valuation

  abbrev val : Valuation
  val = leaves.val j e h.contents x h.regular u σ used h.matched h.pending h.valuation h.rest h.stands h.inner h.is_of h.agrees h.same

  abbrev vars : List VarInfo
  vars = u.vars ++ new_variables x.vars

  abbrev all : Substitution
  all = stand_all x σ u

  abbrev t : State
  t = done_state x σ used u

  abbrev result : Content
  result = result_through all x.result

  of : Parts j.types x
  of = parts j.types _ x h.regular

  -- ---- the trace

  trace_is : (b : List Mark) → after h.so_far (enter_mark h.proc h.site ∷ (h.inner.trace ++ b)) ≡ t.trace ++ b
  trace_is b =
      after-append h.so_far (enter_mark h.proc h.site ∷ (h.inner.trace ++ b))
      ∙ sym (append_assoc h.so_far (enter_mark h.proc h.site ∷ []) (h.inner.trace ++ b))
      ∙ sym (append_assoc (h.so_far ++ enter_mark h.proc h.site ∷ []) h.inner.trace b)
      ∙ ap (λ z. z ++ b) (ap₂ (λ (y z : List Mark). y ++ z) (sym h.marks) h.is_of.trace)

  -- ---- the result

  fits_result : (ty : ValueType) (r : Option Content) → x.result ≡ r → FitsResult x.vars (Some ty) r → fits_cell vars ty (result_through all r) ≡ true
  fits_result ty None is f = refl
  fits_result ty (Some d) is f =
      let used' : Each (λ y. is_used_written x y ≡ true) (content_variables d) = subst (λ o. Each (λ y. is_used_written x y ≡ true) (used_by_result o)) is of.in_result in
      (and_parts _ _ (read_state x vars u.pure (folded vars all x.pure u.pure) (folded_more vars all x.pure u.pure) all
      (stands_all u.vars u.pure x.vars σ (new.before j e h.contents x h.regular u σ used h.matched h.pending h.valuation h.rest h.stands h.inner h.is_of h.agrees h.same) (new.typed j e h.contents x h.regular u σ used h.matched h.pending h.valuation h.rest h.stands h.inner h.is_of h.agrees h.same))
      (λ y z said is'. or_right (not (is_cell vars z.0)) (is_said_written (folded vars all x.pure u.pure) z.0) (folded_said vars all x.pure u.pure y z said is'))
      (ty ∷ []) (Live (d ∷ [])) (and_from _ _ f refl) (each_append _ (content_variables d) [] used' tt)).0).0

  abbrev command : Item
  command = Act (call h.to h.proc h.operands h.site)

  grown_regards : Regards types outcome vars u.slots (command ∷ k)
  grown_regards = regards_grown types outcome u.vars vars u.slots (command ∷ k) (grown_by u.vars (new_variables x.vars)) h.regards

  regards_after : (o : Option ℕ) → h.to ≡ o → Regards types outcome vars (kept_slots o result u.slots) k
  regards_after None is = regards_next types outcome vars u.slots (command ∷ k) k (λ m z. z) grown_regards
  regards_after (Some m) is =
      let plain = subst (λ o. IsWellFormed j.body.slots outcome (where_in k) (call o h.proc h.operands h.site)) is h.lowered.well_formed.0 in
      let reads : SettlesFirst m k = subst (λ o. IfSome o (λ slot. SettlesFirst slot k)) is h.lowered.well_formed.1 in
      regards_set types outcome vars u.slots (command ∷ k) k m result (λ i z. absurd z) (fits_result (types m) x.result refl (h.result m is)) (λ y f. reads) (λ o. absurd (let f : true ≡ false = sym o ∙ plain.0.1 in cc)) grown_regards

  -- ---- the end of the call

  ends_by : (ex : Exit) → x.exit ≡ ex → Comes P j e types outcome n k (end_call (the_call h.to h.proc h.contents h.site) all x.result ex (entry_terms x all) t)
  ends_by (exit.Error kind at) is =
      let ending : h.inner.ending ≡ Failed (error kind) at = h.is_of.ending ∙ ap (λ ex. ending_of w ex x.result) is in
      let (trace, ends, last) = subst (comes_back mark_of h.proc h.to h.site k (contents_value h.valuation u.slots) h.inner.trace h.inner.after (Onward P j e types outcome n h.so_far)) ending h.back in record {
        valuation = val;
        rest = h.rest;
        stands = leaves.behind j e h.contents x h.regular u σ used h.matched h.pending h.valuation h.rest h.stands h.inner h.is_of h.agrees h.same;
        trace = trace ∙ ap (λ z. after h.so_far (enter_mark h.proc h.site ∷ z)) (sym (append-nil h.inner.trace)) ∙ trace_is [] ∙ append-nil t.trace;
        ending = ends;
        after = last ∙ leaves.after j e h.contents x h.regular u σ used h.matched h.pending h.valuation h.rest h.stands h.inner h.is_of h.agrees h.same;
      }
  ends_by exit.Ok is =
      let ending : h.inner.ending ≡ Returned (result_value w x.result) = h.is_of.ending ∙ ap (λ ex. ending_of w ex x.result) is in
      let runs = subst (comes_back mark_of h.proc h.to h.site k (contents_value h.valuation u.slots) h.inner.trace h.inner.after (Onward P j e types outcome n h.so_far)) ending h.back in
      let slots : keep_result h.to (contents_value h.valuation u.slots) (result_value w x.result) ≡ contents_value val (kept_slots h.to result u.slots) =
      sym (slots_are val h.to result u.slots ∙ ap₂ (keep_result h.to) (leaves.slots_same j e h.contents x h.regular u σ used h.matched h.pending h.valuation h.rest h.stands h.inner h.is_of h.agrees h.same)
      (leaves.result_is j e h.contents x h.regular u σ used h.matched h.pending h.valuation h.rest h.stands h.inner h.is_of h.agrees h.same x.result refl)) in
      subst (λ (z : State). Going P j e types outcome n z k) (sym (kept_is h.to result (marked mark.Leave h.site t))) (record {
        regards = regards_after h.to refl;
        valuation = val;
        rest = h.rest;
        stands = leaves.behind j e h.contents x h.regular u σ used h.matched h.pending h.valuation h.rest h.stands h.inner h.is_of h.agrees h.same;
        runs = on_slots slots (leaves.after j e h.contents x h.regular u σ used h.matched h.pending h.valuation h.rest h.stands h.inner h.is_of h.agrees h.same) (trace_is (leave_mark h.site ∷ [])) runs;
      })
    where
      on_slots : {us us' : List Value} {g g' : HeapMap} {z z' : List Mark} → us ≡ us' → g ≡ g' → z ≡ z' → Runs mark_of (Some j.limits.unroll) P n k us g z e.trace e.ending e.after → Runs mark_of (Some j.limits.unroll) P n k us' g' z' e.trace e.ending e.after
      on_slots {us} {us'} {g} {g'} {z} {z'} p q r runs =
          subst (λ us. Runs mark_of (Some j.limits.unroll) P n k us g' z' e.trace e.ending e.after) p
          (subst (λ g. Runs mark_of (Some j.limits.unroll) P n k us g z' e.trace e.ending e.after) q (subst (λ z. Runs mark_of (Some j.limits.unroll) P n k us g z e.trace e.ending e.after) r runs))

  finish_comes : Comes P j e types outcome n k (finish_call c x σ used u)
  finish_comes = subst (λ z. Comes P j e types outcome n k (finish_call z x σ used u)) (sym h.is_call) (ends_by x.exit refl)

  pub may_finish : is_possible x all u ≡ true
  may_finish = leaves.possible j e h.contents x h.regular u σ used h.matched h.pending h.valuation h.rest h.stands h.inner h.is_of h.agrees h.same

  pub finish_moves : Moves P j e types outcome n u (leads u (finish_call c x σ used u) (at k))
  finish_moves = leads_moves P j e types outcome n u k (after_lowered P j types outcome u (call h.to h.proc h.operands h.site) k k h.lowered refl) h.begins (finish_call c x σ used u) (at k) refl finish_comes

  pub finish_stays : WellFormedLeads j (leads u (finish_call c x σ used u) (at k))
  finish_stays = finish_well_formed j h.contents x h.regular u σ used h.matched h.pending c k h.keeps h.opens
