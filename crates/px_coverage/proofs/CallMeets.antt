-- A block that an entry requires is met along a listed way, and the call goes on.
use Rattle.std.proofs.Common.{◌≡◌, ℕ, Bool, Option, Some, None, List, ◌∷◌, ◌++◌, refl, sym, ap, ◌∙◌, subst}
use Rattle.px_terms.specs.Valuations.{Valuation}
use Rattle.px_terms.specs.declared.types.Value.TheVariants as value
use Rattle.px_terms.specs.declared.conjuncts.Place.TheVariants as place
use Rattle.px_core.specs.CommandTree.{call}
use Rattle.px_core.specs.Control.{Item, Act}
use Rattle.px_entry.specs.declared.atoms.Atom.{Atom}
use Rattle.px_entry.specs.declared.entries.Entry.{Entry}
use Rattle.px_entry.specs.declared.tables.LongKind.{LongKind}
use Rattle.px_callgraph.specs.declared.states.State.{State}
use Rattle.px_callgraph.specs.declared.states.Way.{Way}
use Rattle.px_callgraph.specs.JobTree.{JobTree}
use Rattle.px_callgraph.specs.States.{on}
use Rattle.px_callgraph.specs.Renaming.{Substitution, place_through}
use Rattle.px_callgraph.specs.Calls.{Calling, Taken, take_case, required_ways}
use Rattle.px_callgraph.specs.declared.outcomes.StepOutcome.TheVariants.{Next}
use Rattle.px_callgraph.specs.Alternatives.{passes, limited, going_on, taking}
use Rattle.px_meaning.specs.Heaps.{IsWellTyped, join}
use Rattle.px_meaning.specs.Events.{mark_of}
use Rattle.px_meaning.specs.Steps.{comes_back}
use Rattle.px_meaning.specs.CoreCalls.{CoreProgram}
use Rattle.px_meaning.specs.CoreTypes.{SlotTypes}
use Rattle.px_meaning.specs.Triples.{block_of, heap_of}
use Rattle.px_meaning.proofs.Joins.{join_has}
use Rattle.px_soundness.proofs.WellFormed.{Opens}
use Rattle.px_soundness.proofs.AtomHeaps.{Placed, place_of, at_heap, there}
use Rattle.px_soundness.proofs.Sound.{Can}
use Rattle.px_soundness.proofs.CallCases.{Took, each_took}
use Rattle.px_soundness.proofs.CallPending.{pending_moved, moved_loops}
use Rattle.px_symexec.proofs.Lists.{IsIn}
use Rattle.px_coverage.specs.Covered.{Execution, Begins}
use Rattle.px_coverage.proofs.Regards.{Regards, regards_grown}
use Rattle.px_coverage.proofs.Follows.{Onward}
use Rattle.px_coverage.proofs.CallAgrees.{each1_in, get_mid}
use Rattle.px_coverage.proofs.InnerHeaps.{pre_placed, before_is}
use Rattle.px_coverage.proofs.RequiredFollows.{Meets, follow_required}
use Rattle.px_coverage.proofs.CallUnderWay.{MatchingAt, InCall, CallMoves}

module _ (P : CoreProgram) (j : JobTree) (same_types : j.types ≡ P.types) (e : Execution) (typed : IsWellTyped P.types e.before) (types : SlotTypes) (outcome : ℕ → Bool)
    (n : ℕ) (u : State) (c : Calling) (k : List Item) (x : Entry) (σ : Substitution) (p : Atom) (later : List Atom) (used : List ℕ) (h : MatchingAt P j same_types e typed types outcome n u c k x σ (p ∷ later) used) where
  abbrev w : Valuation
  w = h.is_of.valuation

  placed : Placed w x.pre
  placed = pre_placed j.types _ x h.regular h.inner h.is_of

  block_at : (b : ℕ) × (w p.place.0 ≡ value.Block b) × (join (heap_of h.valuation u.atoms) h.rest b ≡ Some (block_of w p))
  block_at =
      let whole : Placed w (h.matched.first ++ p ∷ later) = subst (Placed w) h.matched.split placed in
      let (b, at) = place_of w (h.matched.first ++ p ∷ later) _ p whole (get_mid h.matched.first later p) in
      let has : heap_of w x.pre b ≡ Some (block_of w p) = ap (λ as'. heap_of w as' b) h.matched.split ∙ there w (h.matched.first ++ p ∷ later) _ p b whole (get_mid h.matched.first later p) at in
      (b, at, sym (at_heap b (sym (before_is j.types _ x h.regular h.inner h.is_of) ∙ h.same)) ∙ join_has (heap_of w x.pre) h.is_of.rest b (block_of w p) has)

  abbrev Meeting : Taken → Type 0
  Meeting t = Meets P j same_types e typed h.contents x h.regular u σ p later used h.matched h.valuation h.rest h.stands h.pending w h.agrees placed block_at.0 block_at.1 block_at.2 t

  -- nothing that the machine could do matters here
  no_machine : Can
  no_machine v heap K = ⊥

  module _ (t : Taken) (took : Took no_machine j.types h.contents x u σ p later t) (meets : Meeting t) where
    stage_at : InCall P j same_types e typed types outcome n t.state c k t.stage
    stage_at = subst (InCall P j same_types e typed types outcome n t.state c k) (sym took.stage) (record {
      to = h.to;
      proc = h.proc;
      operands = h.operands;
      contents = h.contents;
      site = h.site;
      is_call = h.is_call;
      regular = h.regular;
      result = h.result;
      matched = took.matched;
      pending = pending_moved j h.contents x h.regular u σ p later used h.matched h.pending t.state took.substitution took.moved;
      keeps = h.keeps;
      opens = subst (Opens k) (sym (moved_loops j.types u σ p t.state took.substitution took.moved)) h.opens;
      lowered = h.lowered;
      regards = subst (λ cs. Regards types outcome t.state.vars cs (Act (call h.to h.proc h.operands h.site) ∷ k)) (sym took.slots)
          (regards_grown types outcome u.vars t.state.vars u.slots (Act (call h.to h.proc h.operands h.site) ∷ k) meets.grown h.regards);
      valuation = meets.valuation;
      rest = meets.unmet;
      stands = meets.stands';
      inner = h.inner;
      is_of = h.is_of;
      agrees = meets.agrees' took.substitution later took.used took.stage;
      same = h.same ∙ sym meets.whole;
      so_far = h.so_far;
      marks = took.trace ∙ h.marks;
      back = subst (λ us. comes_back mark_of h.proc h.to h.site k us h.inner.trace h.inner.after (Onward P j e types outcome n h.so_far) h.inner.ending) (sym meets.slots) h.back;
      begins = subst (λ z. Begins z e.trace) (sym took.trace) h.begins;
    })

    taken_moves : (o : Option LongKind) → CallMoves P j same_types e typed types outcome n u (limited u (Next (going_on c k t.state t.stage)) o)
    taken_moves None = (c, t.stage, refl, stage_at)
    taken_moves (Some kind) = (refl, h.begins)

  pub meet_goes : (name : Way) × IsIn name (required_ways u σ used p) ×
      CallMoves P j same_types e typed types outcome n u (taking u c k (take_case j.types x σ later used p name (place_through σ (place.Var p.place)) u))
  meet_goes =
      let (name, listed, meets) = follow_required P j same_types e typed h.contents x h.regular u σ p later used h.matched h.valuation h.rest h.stands h.pending w h.agrees placed block_at.0 block_at.1 block_at.2 in
      let t : Taken = take_case j.types x σ later used p name (place_through σ (place.Var p.place)) u in
      let took = each1_in (λ name. Took no_machine j.types h.contents x u σ p later (take_case j.types x σ later used p name (place_through σ (place.Var p.place)) u)) (required_ways u σ used p) name
      (each_took no_machine j.types h.contents x u σ p later used h.matched) listed in
      (name, listed, taken_moves t took meets (passes (on t.state)))
