-- Each step of an execution under way is that of a listed way, where no call is made.
use Rattle.std.proofs.Common.{◌≡◌, ℕ, suc, Bool, true, false, Option, Some, None, List, [], ◌∷◌, refl, sym, ap, ◌∙◌, subst, inl}
use Rattle.std.proofs.lemmas.Bool.{lt-ltb}
use Rattle.px_base.specs.declared.trace.MarkKind.TheVariants as mark
use Rattle.px_terms.specs.declared.types.ValueType.{ValueType}
use Rattle.px_core.specs.CommandTree.{CommandTree, assign, unset, read, test, choose, loop, leave, load, store, malloc, free, input, call, return, break, continue, stop, divide}
use Rattle.px_core.specs.Control.{Item, Turns, Act, AfterHead, AfterBody, AfterStep, acts, one_turn_more}
use Rattle.px_core.proofs.ItemLemmas.{begins_well_formed, steps_well_formed, turns_well_formed}
use Rattle.px_terms.specs.declared.types.Value.TheVariants as value
use Rattle.px_meaning.specs.Events.{mark_of}
use Rattle.px_meaning.specs.Triples.{result_value}
use Rattle.px_callgraph.specs.declared.states.State.{State}
use Rattle.px_callgraph.specs.declared.states.Way.{Way}
use Rattle.px_callgraph.specs.declared.states.Way.TheVariants as way
use Rattle.px_callgraph.specs.JobTree.{JobTree}
use Rattle.px_callgraph.specs.States.{Done, past, on, marked, begun}
use Rattle.px_callgraph.specs.Commands.{repeat_loop, command_ways, command_done}
use Rattle.px_callgraph.specs.declared.outcomes.StepOutcome.TheVariants.{Past}
use Rattle.px_callgraph.specs.Alternatives.{Leads, at, leads, items_after, after_command, item_ways, item_act, fallen}
use Rattle.px_meaning.specs.Heaps.{IsWellTyped}
use Rattle.px_meaning.specs.Calls.{Returned}
use Rattle.px_meaning.specs.CoreCalls.{CoreProgram}
use Rattle.px_meaning.specs.CoreTypes.{SlotTypes}
use Rattle.px_meaning.proofs.TypedSteps.{acts_typed}
use Rattle.px_meaning.proofs.Determined.{runs_begin}
use Rattle.px_soundness.proofs.WellFormed.{WellTyped, WellFormed}
use Rattle.px_soundness.proofs.Walks.{IsOwn}
use Rattle.px_symexec.proofs.Lists.{IsIn}
use Rattle.px_coverage.specs.Covered.{Execution, Begins}
use Rattle.px_coverage.proofs.Regards.{regards_next, acts_known, Lowered, after_lowered}
use Rattle.px_coverage.proofs.Follows.{Going, Comes, Moves, leads_moves}
use Rattle.px_coverage.proofs.PlainFollows.{follow_assign, follow_unset}
use Rattle.px_coverage.proofs.ReadFollows.{follow_read, follow_test}
use Rattle.px_coverage.proofs.ControlFollows.{follow_choose, follow_loop, follow_leave, follow_break, follow_continue, follow_return}
use Rattle.px_coverage.proofs.MakeFollows.{follow_input, follow_malloc}
use Rattle.px_coverage.proofs.DivisionFollows.{follow_divide}
use Rattle.px_coverage.proofs.AccessSteps.{follow_load, follow_store, follow_free}

module _ (P : CoreProgram) (j : JobTree) (same_types : j.types ≡ P.types) (e : Execution) (typed : IsWellTyped P.types e.before) (types : SlotTypes) (outcome : ℕ → Bool) where
  -- an execution is under way at a place where no call is going on
  pub record UnderWay (n : ℕ) (s : State) (k : List Item) : Type 0 where
    pub well_formed : WellFormed j s k
    pub lowered : Lowered P j types outcome k
    pub going : Going P j e types outcome n s k

  -- it goes on along a way that is listed there
  abbrev pub GoesOn : ℕ → State → List Item → Type 0
  GoesOn n s k = (name : Way) × IsIn name (item_ways j s k) × Moves P j e types outcome n s (item_act j s k name)

  module _ (n : ℕ) (s : State) where
    begins_here : (k : List Item) → Going P j e types outcome (suc n) s k → Begins s.trace e.trace
    begins_here k g = runs_begin mark_of (Some j.limits.unroll) P (suc n) k _ _ s.trace e.trace e.ending e.after g.runs

    module _ (c : CommandTree) (k : List Item) (u : UnderWay (suc n) s (Act c ∷ k)) where
      -- a way of a command that is done, with what stands after it
      done : (k' : List Item) → items_after s c k ≡ Some k' → ((t : State) → at k' t ≡ after_command s c k' t) → (name : Way) → IsIn name (command_ways j s c) → Comes P j e types outcome n k' (command_done j c name s) → GoesOn n s (Act c ∷ k)
      done k' is same name listed comes = (
        name,
        subst (λ o. IsIn name (elim o as (λ _. List Way) [ None ↦ [] | Some k' ↦ command_ways j s c ])) (sym is) listed,
        subst (λ o. Moves P j e types outcome n s (elim o as (λ _. Leads) [ None ↦ Past s | Some k' ↦ leads s (command_done j c name s) (after_command s c k') ])) (sym is)
            (leads_moves P j e types outcome n s k' (after_lowered P j types outcome s c k k' u.lowered is) (begins_here (Act c ∷ k) u.going) (command_done j c name s) (after_command s c k') (same (command_done j c name s).state) comes),
      )

    well_typed_begun : WellTyped j.types s → WellTyped j.types (begun s)
    well_typed_begun t = record { slots = t.slots; atoms = t.atoms; own = t.own }

    pub command_goes : (c : CommandTree) (k : List Item) → IsOwn c → UnderWay (suc n) s (Act c ∷ k) → GoesOn n s (Act c ∷ k)
    command_goes (assign to op a b) k own u =
        let g = u.going in
        let r = u.well_formed.keeps.0.0 in
        let o = u.lowered.well_formed.0 in
        let (name, listed, comes) = follow_assign P j e types outcome n (begun s) (well_typed_begun u.well_formed.well_typed) u.well_formed.complete g.valuation g.rest g.stands k to op a b r.0 r.1 g.regards u.lowered.typed.0 o.3 g.runs in
        done (assign to op a b) k u k refl (λ t. refl) name listed comes
    command_goes (unset to) k own u =
        let g = u.going in
        let (name, listed, comes) = follow_unset P j e types outcome n (begun s) (well_typed_begun u.well_formed.well_typed) u.well_formed.complete g.valuation g.rest g.stands k to g.regards g.runs in
        done (unset to) k u k refl (λ t. refl) name listed comes
    command_goes (read slot site) k own u =
        let g = u.going in
        let (name, listed, comes) = follow_read P j e types outcome n (begun s) (well_typed_begun u.well_formed.well_typed) u.well_formed.complete g.valuation g.rest g.stands k slot site g.regards g.runs in
        done (read slot site) k u k refl (λ t. refl) name listed comes
    command_goes (test to how a b site) k own u =
        let g = u.going in
        let r = u.well_formed.keeps.0.0 in
        let (name, listed, comes) = follow_test P j e types outcome n (begun s) (well_typed_begun u.well_formed.well_typed) u.well_formed.complete g.valuation g.rest g.stands k to how a b site r.0 r.1 u.lowered.typed.0.0 g.regards g.runs in
        done (test to how a b site) k u k refl (λ t. refl) name listed comes
    command_goes (choose slot first second) k own u =
        let g = u.going in
        let (k', is, name, listed, comes) = follow_choose P j e types outcome n (begun s) (well_typed_begun u.well_formed.well_typed) u.well_formed.complete g.valuation g.rest g.stands k slot first second u.lowered.well_formed.0.1 g.regards g.runs in
        done (choose slot first second) k u k' is (λ t. refl) name listed comes
    command_goes (loop site head body step) k own u =
        let g = u.going in
        let (k', is, name, listed, comes) = follow_loop P j e types outcome n (begun s) (well_typed_begun u.well_formed.well_typed) u.well_formed.complete g.valuation g.rest g.stands k site head body step g.regards g.runs in
        done (loop site head body step) k u k' is (λ t. refl) name listed comes
    command_goes leave k own u =
        let g = u.going in
        let (k', is, name, listed, comes) = follow_leave P j e types outcome n (begun s) (well_typed_begun u.well_formed.well_typed) u.well_formed.complete g.valuation g.rest g.stands k u.well_formed.opens g.regards g.runs in
        done leave k u k' is (λ t. refl) name listed comes
    command_goes (load to at' field block site) k own u =
        let g = u.going in
        let t = u.lowered.typed.0 in
        let o = u.lowered.well_formed in
        let (name, listed, comes) = follow_load P j same_types e typed types outcome n (begun s) (well_typed_begun u.well_formed.well_typed) u.well_formed.complete g.valuation g.rest g.stands k at' block site u.well_formed.keeps.0.0 t.0 to field t.1 o.0.0.1 o.1 g.regards g.runs in
        done (load to at' field block site) k u k refl (λ t. refl) name listed comes
    command_goes (store at' field block from site) k own u =
        let g = u.going in
        let t = u.lowered.typed.0 in
        let r = u.well_formed.keeps.0.0 in
        let (name, listed, comes) = follow_store P j same_types e typed types outcome n (begun s) (well_typed_begun u.well_formed.well_typed) u.well_formed.complete g.valuation g.rest g.stands k at' block site r.0 t.0 field from t.1.0 r.1 t.1.1 t.1.2 g.regards g.runs in
        done (store at' field block from site) k u k refl (λ t. refl) name listed comes
    command_goes (malloc to block site) k own u =
        let g = u.going in
        let t = u.lowered.typed.0 in
        let (name, listed, comes) = follow_malloc P j same_types e types outcome n (begun s) (well_typed_begun u.well_formed.well_typed) u.well_formed.complete g.valuation g.rest g.stands k to block site t.0 u.lowered.well_formed.0.1 t.1 g.regards g.runs in
        done (malloc to block site) k u k refl (λ t. refl) name listed comes
    command_goes (free at' block site) k own u =
        let g = u.going in
        let (name, listed, comes) = follow_free P j same_types e typed types outcome n (begun s) (well_typed_begun u.well_formed.well_typed) u.well_formed.complete g.valuation g.rest g.stands k at' block site u.well_formed.keeps.0.0 u.lowered.typed.0 u.lowered.known.0 g.regards g.runs in
        done (free at' block site) k u k refl (λ t. refl) name listed comes
    command_goes (input to site) k own u =
        let g = u.going in
        let (name, listed, comes) = follow_input P j same_types e types outcome n (begun s) (well_typed_begun u.well_formed.well_typed) u.well_formed.complete g.valuation g.rest g.stands k to site u.lowered.typed.0 u.lowered.well_formed.0.1 g.regards g.runs in
        done (input to site) k u k refl (λ t. refl) name listed comes
    command_goes (call to proc arguments site) k own u = absurd own
    command_goes (return from) k own u =
        let g = u.going in
        let (k', is, name, listed, comes) = follow_return P j e types outcome n (begun s) (well_typed_begun u.well_formed.well_typed) u.well_formed.complete g.valuation g.rest g.stands k from u.well_formed.keeps.0.0 u.lowered.typed.0 g.regards g.runs in
        done (return from) k u k' is (λ t. refl) name listed comes
    command_goes break k own u =
        let g = u.going in
        let (k', is, name, listed, comes) = follow_break P j e types outcome n (begun s) (well_typed_begun u.well_formed.well_typed) u.well_formed.complete g.valuation g.rest g.stands k u.well_formed.opens u.lowered.well_formed.0 g.regards g.runs in
        done break k u k' is (λ t. refl) name listed comes
    command_goes continue k own u =
        let g = u.going in
        let (k', is, name, listed, comes) = follow_continue P j e types outcome n (begun s) (well_typed_begun u.well_formed.well_typed) u.well_formed.complete g.valuation g.rest g.stands k u.well_formed.opens u.lowered.well_formed.0 g.regards g.runs in
        done continue k u k' is (λ t. refl) name listed comes
    command_goes (stop number site) k own u = done (stop number site) k u k refl (λ t. refl) way.Drop (inl refl) tt
    command_goes (divide to a b site) k own u =
        let g = u.going in
        let r = u.well_formed.keeps.0.0 in
        let (name, listed, comes) = follow_divide P j same_types e types outcome n (begun s) (well_typed_begun u.well_formed.well_typed) u.well_formed.complete g.valuation g.rest g.stands k to a b site r.0 r.1 u.lowered.typed.0.0 u.lowered.well_formed.0.0.1 g.regards g.runs in
        done (divide to a b site) k u k refl (λ t. refl) name listed comes

    -- ---- ends of bodies and of the parts of loops

    end_goes : UnderWay (suc n) s [] → GoesOn n s []
    end_goes u =
        let g = u.going in (
          way.On,
          inl refl,
          record { valuation = g.valuation; rest = g.rest; stands = g.stands; trace = g.runs.0; ending = g.runs.1 ∙ ap Returned (nothing j.body.result); after = g.runs.2 },
        )
      where
        nothing : (o : Option ValueType) → value.Unwritten ≡ result_value u.going.valuation (fallen o)
        nothing None = refl
        nothing (Some t) = refl

    head_goes : (l : Turns) (k : List Item) → UnderWay (suc n) s (AfterHead l ∷ k) → GoesOn n s (AfterHead l ∷ k)
    head_goes l k u =
        let g = u.going in
        let k' = acts l.body (AfterBody (one_turn_more l) ∷ k) in
        let d = on (repeat_loop l.site (suc l.made) (marked mark.Iter l.site s)) in
        let lowered : Lowered P j types outcome k' = record {
          typed = acts_typed P types j.body.result l.body (AfterBody (one_turn_more l) ∷ k) u.lowered.typed.0.1 u.lowered.typed;
          well_formed = begins_well_formed j.body.slots outcome l k u.lowered.well_formed;
          known = acts_known P.types l.body (AfterBody (one_turn_more l) ∷ k) u.lowered.known.0.1 u.lowered.known;
        } in (
          way.On,
          inl refl,
          subst (λ b. Moves P j e types outcome n s (leads s (elim b as (λ _. Done) [ true ↦ on (repeat_loop l.site (suc l.made) (marked mark.Iter l.site s)) | false ↦ record { state = s; terms = []; outcome = past } ]) (at k'))) (sym (lt-ltb l.made j.limits.unroll g.runs.0))
              (leads_moves P j e types outcome n s k' lowered (begins_here (AfterHead l ∷ k) g) d (at k') refl (record {
                regards = regards_next types outcome s.vars s.slots (AfterHead l ∷ k) k' (λ m x. x) g.regards;
                valuation = g.valuation;
                rest = g.rest;
                stands = g.stands;
                runs = g.runs.1;
              })),
        )

    body_goes : (l : Turns) (k : List Item) → UnderWay (suc n) s (AfterBody l ∷ k) → GoesOn n s (AfterBody l ∷ k)
    body_goes l k u =
        let g = u.going in
        let k' = acts l.step (AfterStep l ∷ k) in (
          way.On,
          inl refl,
          (
            refl,
            record { regards = regards_next types outcome s.vars s.slots (AfterBody l ∷ k) k' (λ m x. x) g.regards; valuation = g.valuation; rest = g.rest; stands = g.stands; runs = g.runs },
            record {
              typed = acts_typed P types j.body.result l.step (AfterStep l ∷ k) u.lowered.typed.0.2 u.lowered.typed;
              well_formed = steps_well_formed j.body.slots outcome l k u.lowered.well_formed;
              known = acts_known P.types l.step (AfterStep l ∷ k) u.lowered.known.0.2 u.lowered.known;
            },
          ),
        )

    step_goes : (l : Turns) (k : List Item) → UnderWay (suc n) s (AfterStep l ∷ k) → GoesOn n s (AfterStep l ∷ k)
    step_goes l k u =
        let g = u.going in
        let k' = acts l.head (AfterHead l ∷ k) in (
          way.On,
          inl refl,
          (
            refl,
            record { regards = regards_next types outcome s.vars s.slots (AfterStep l ∷ k) k' (λ m x. x) g.regards; valuation = g.valuation; rest = g.rest; stands = g.stands; runs = g.runs },
            record {
              typed = acts_typed P types j.body.result l.head (AfterHead l ∷ k) u.lowered.typed.0.0 u.lowered.typed;
              well_formed = turns_well_formed j.body.slots outcome l k u.lowered.well_formed;
              known = acts_known P.types l.head (AfterHead l ∷ k) u.lowered.known.0.0 u.lowered.known;
            },
          ),
        )

    pub goes_on : (k : List Item) → ((c : CommandTree) (k' : List Item) → k ≡ Act c ∷ k' → IsOwn c) → UnderWay (suc n) s k → GoesOn n s k
    goes_on [] own u = end_goes u
    goes_on (Act c ∷ k) own u = command_goes c k (own c k refl) u
    goes_on (AfterHead l ∷ k) own u = head_goes l k u
    goes_on (AfterBody l ∷ k) own u = body_goes l k u
    goes_on (AfterStep l ∷ k) own u = step_goes l k u
