-- Each step of a choice, a loop, a jump and a return is that of a listed way, and so is the end of a body.
use Rattle.std.proofs.Common.{◌≡◌, ◌⊎◌, ℕ, Bool, true, false, Option, Some, None, List, [], ◌∷◌, ◌++◌, pos, refl, sym, ap, ◌∙◌, subst, inl, inr, IsSomeAnd}
use Rattle.std.specs.Prelude.{is_some, option_map, ℤ}
use Rattle.px_base.specs.declared.trace.Site.{Site}
use Rattle.px_base.specs.declared.trace.MarkKind.TheVariants as mark
use Rattle.px_terms.specs.Valuations.{Valuation}
use Rattle.px_terms.specs.declared.types.Value.TheVariants as value
use Rattle.px_terms.specs.declared.types.ValueType.{ValueType}
use Rattle.px_terms.specs.declared.conjuncts.Content.{Content}
use Rattle.px_terms.specs.declared.conjuncts.Content.TheVariants.{Unwritten, Word}
use Rattle.px_core.specs.declared.command.Operand.{Operand}
use Rattle.px_core.specs.CommandTree.{CommandTree, CommandTrees, choose, loop, leave, return, break, continue}
use Rattle.px_core.specs.Control.{Item, Turns, Act, AfterHead, AfterBody, AfterStep, acts, no_turns, leave_to, break_to, continue_to}
use Rattle.px_core.specs.Constants.{KeepsToRange}
use Rattle.px_core.specs.WellFormed.{Outside, InBody, IsBreakable}
use Rattle.px_core.specs.WellFormedItems.{where_in}
use Rattle.px_entry.specs.Standing.{content_value, contents_value}
use Rattle.px_callgraph.specs.declared.states.State.{State}
use Rattle.px_callgraph.specs.declared.states.Way.{Way}
use Rattle.px_callgraph.specs.declared.states.Way.TheVariants as way
use Rattle.px_callgraph.specs.JobTree.{JobTree}
use Rattle.px_callgraph.specs.States.{content_at, operand_content, number}
use Rattle.px_callgraph.specs.Commands.{outcome_of, last_loop, leaving, returned, return_done, command_ways, act_done}
use Rattle.px_callgraph.specs.Alternatives.{chosen, items_after}
use Rattle.px_meaning.specs.Heaps.{HeapMap, join}
use Rattle.px_meaning.specs.Operations.{value_at}
use Rattle.px_meaning.specs.Calls.{Returned}
use Rattle.px_meaning.specs.Events.{mark_of}
use Rattle.px_meaning.specs.Steps.{Goes, returned_value, command}
use Rattle.px_meaning.specs.CoreCalls.{CoreProgram}
use Rattle.px_meaning.specs.CoreTypes.{SlotTypes, IsOperandOf, IsTyped}
use Rattle.px_meaning.specs.Triples.{heap_of, result_value}
use Rattle.px_meaning.proofs.Taken.{some_to}
use Rattle.px_meaning.proofs.TypedSteps.{one_fits, none_fits}
use Rattle.px_soundness.proofs.WellFormed.{WellTyped, Opens, CompleteAt}
use Rattle.px_soundness.proofs.Contents.{slot_is, operand_is, number_is}
use Rattle.px_soundness.proofs.Controls.{leave_opens}
use Rattle.px_symexec.proofs.Lists.{IsIn}
use Rattle.px_coverage.specs.Covered.{Execution}
use Rattle.px_coverage.proofs.Stands.{Stands}
use Rattle.px_coverage.proofs.Regards.{IsOutcome, Regards, regards_next, operand_fits}
use Rattle.px_coverage.proofs.Follows.{Onward, Calls, Comes}
use Rattle.px_coverage.proofs.PlainFollows.{in_if, some_is_some}

last_some : (rest : List (Site × ℕ)) (x : Site × ℕ) → is_some (last_loop (rest ++ x ∷ [])) ≡ true
last_some [] x = refl
last_some (y ∷ []) x = refl
last_some (y ∷ z ∷ rest) x = last_some (z ∷ rest) x

-- a loop is open where something is done in one
loops_open : (k : List Item) (loops : List (Site × ℕ)) → Opens k loops → ((where_in k ≡ Outside) ⊎ (is_some (last_loop loops) ≡ true))
loops_open [] loops h = inl refl
loops_open (Act c ∷ k) loops h = loops_open k loops h
loops_open (AfterHead l ∷ k) loops (rest, m, is, h) = inr (ap (λ z. is_some (last_loop z)) is ∙ last_some rest (l.site, m))
loops_open (AfterBody l ∷ k) loops (rest, m, is, h) = inr (ap (λ z. is_some (last_loop z)) is ∙ last_some rest (l.site, m))
loops_open (AfterStep l ∷ k) loops (rest, m, is, h) = inr (ap (λ z. is_some (last_loop z)) is ∙ last_some rest (l.site, m))

one_not_none : value.Word (pos 1) ≡ value.Word (pos 0) → ⊥
one_not_none e = cc

unwritten_no_word : (z : ℤ) → value.Unwritten ≡ value.Word z → ⊥
unwritten_no_word z e = cc

module _ (P : CoreProgram) (j : JobTree) (e : Execution) (types : SlotTypes) (outcome : ℕ → Bool) (n : ℕ)
    (s : State) (well_typed : WellTyped j.types s) (complete : CompleteAt j s) (v : Valuation) (rest : HeapMap) (stands : Stands e v rest s.vars s.pure s.pre s.atoms) where
  abbrev heap : HeapMap
  heap = join (heap_of v s.atoms) rest

  -- a listed way, with the items after the command
  abbrev pub FoundAfter : CommandTree → List Item → Type 0
  FoundAfter c k = (k' : List Item) × (items_after s c k ≡ Some k') × (w : Way) × IsIn w (command_ways j s c) × Comes P j e types outcome n k' (act_done j c w s)

  abbrev StepsTo : CommandTree → List Item → Type 0
  StepsTo c k = command mark_of P.types (Calls P j e types outcome n) c k (contents_value v s.slots) heap (Onward P j e types outcome n s.trace)

  abbrev Regarded : List Content → List Item → Type 0
  Regarded slots k = Regards types outcome s.vars slots k

  module _ (k : List Item) where
    -- ---- choices

    module _ (slot : ℕ) (first second : CommandTrees) (is_outcome : outcome slot ≡ true) (h : Regarded s.slots (Act (choose slot first second) ∷ k)) where
      outcome_here : (b : Bool) (z : ℤ) → value_at (contents_value v s.slots) slot ≡ value.Word z → (content_at s.slots slot ≡ Word (number (pos 1)) → z ≡ pos 1 → outcome_of (content_at s.slots slot) ≡ Some b) →
          (content_at s.slots slot ≡ Word (number (pos 0)) → z ≡ pos 0 → outcome_of (content_at s.slots slot) ≡ Some b) → outcome_of (content_at s.slots slot) ≡ Some b
      outcome_here b z is one none = by (h.outcomes slot is_outcome)
        where
          value_is : content_value v (content_at s.slots slot) ≡ value.Word z
          value_is = sym (slot_is v s.slots slot) ∙ is

          word_is : (x y : ℤ) → value.Word x ≡ value.Word y → x ≡ y
          word_is x y f = cc

          by : IsOutcome (content_at s.slots slot) → outcome_of (content_at s.slots slot) ≡ Some b
          by (inl at) = absurd (unwritten_no_word z (sym (ap (content_value v) at) ∙ value_is))
          by (inr (inl at)) = one at (word_is z (pos 1) (sym value_is ∙ ap (content_value v) at ∙ number_is v (pos 1) one_fits))
          by (inr (inr at)) = none at (word_is z (pos 0) (sym value_is ∙ ap (content_value v) at ∙ number_is v (pos 0) none_fits))

      chosen_found : (b : Bool) → outcome_of (content_at s.slots slot) ≡ Some b → Onward P j e types outcome n s.trace [] (Goes (acts (chosen b first second) k) (contents_value v s.slots) heap) → FoundAfter (choose slot first second) k
      chosen_found b is go = (
        acts (chosen b first second) k,
        ap (option_map (λ b. acts (chosen b first second) k)) is,
        way.On,
        in_if (is_some (outcome_of (content_at s.slots slot))) way.On (some_is_some (outcome_of (content_at s.slots slot)) b is),
        record { regards = regards_next types outcome s.vars s.slots (Act (choose slot first second) ∷ k) (acts (chosen b first second) k) (λ m x. x) h; valuation = v; rest = rest; stands = stands; runs = go },
      )

      pub follow_choose : StepsTo (choose slot first second) k → FoundAfter (choose slot first second) k
      follow_choose (inl (is, go)) = chosen_found true (outcome_here true (pos 1) is (λ at f. ap outcome_of at) (λ at f. absurd (one_not_none (ap value.Word f)))) go
      follow_choose (inr (is, go)) = chosen_found false (outcome_here false (pos 0) is (λ at f. absurd (one_not_none (ap value.Word (sym f)))) (λ at f. ap outcome_of at)) go

    -- ---- loops and jumps

    pub follow_loop : (site : Site) (head body step : CommandTrees) → Regarded s.slots (Act (loop site head body step) ∷ k) → StepsTo (loop site head body step) k → FoundAfter (loop site head body step) k
    follow_loop site head body step h go = (
      acts head (AfterHead (no_turns site head body step) ∷ k),
      refl,
      way.On,
      inl refl,
      record {
        regards = regards_next types outcome s.vars s.slots (Act (loop site head body step) ∷ k) (acts head (AfterHead (no_turns site head body step) ∷ k)) (λ m x. x) h;
        valuation = v;
        rest = rest;
        stands = stands;
        runs = go;
      },
    )

    pub follow_leave : Opens k s.loops → Regarded s.slots (Act leave ∷ k) → StepsTo leave k → FoundAfter leave k
    follow_leave opens h step =
        some_to (leave_to k) (λ place. Onward P j e types outcome n s.trace (record { kind = mark.Done; site = place.0.site } ∷ []) (Goes place.1 (contents_value v s.slots) heap)) (FoundAfter leave k)
        (λ p is go.
        let (m, last, more) = leave_opens k s.loops p opens is in (
          p.1,
          ap (option_map (λ (place : Turns × List Item). place.1)) is,
          way.On,
          in_if (is_some (last_loop s.loops)) way.On (some_is_some (last_loop s.loops) (p.0.site, m) last),
          subst (λ o. Comes P j e types outcome n p.1 (leaving o s)) (sym last) (record {
            regards = regards_next types outcome s.vars s.slots (Act leave ∷ k) p.1 (λ m x. x) h;
            valuation = v;
            rest = rest;
            stands = stands;
            runs = go;
          }),
        )) step

    loop_here : Opens k s.loops → (where_in k ≡ Outside → ⊥) → is_some (last_loop s.loops) ≡ true
    loop_here opens inside = elim (loops_open k s.loops opens) [ inl f ↦ absurd (inside f) | inr f ↦ f ]

    pub follow_break : Opens k s.loops → IsBreakable (where_in k) → Regarded s.slots (Act break ∷ k) → StepsTo break k → FoundAfter break k
    follow_break opens inside h step =
        some_to (break_to k) (λ place. Onward P j e types outcome n s.trace [] (Goes place (contents_value v s.slots) heap)) (FoundAfter break k)
        (λ p is go. (
          p,
          is,
          way.On,
          in_if (is_some (last_loop s.loops)) way.On (loop_here opens (λ f. subst IsBreakable f inside)),
          record { regards = regards_next types outcome s.vars s.slots (Act break ∷ k) p (λ m x. x) h; valuation = v; rest = rest; stands = stands; runs = go },
        )) step

    pub follow_continue : Opens k s.loops → where_in k ≡ InBody → Regarded s.slots (Act continue ∷ k) → StepsTo continue k → FoundAfter continue k
    follow_continue opens inside h step =
        some_to (continue_to k) (λ place. Onward P j e types outcome n s.trace [] (Goes place (contents_value v s.slots) heap)) (FoundAfter continue k)
        (λ p is go. (
          p,
          is,
          way.On,
          in_if (is_some (last_loop s.loops)) way.On (loop_here opens (λ f. not_outside (sym f ∙ inside))),
          record { regards = regards_next types outcome s.vars s.slots (Act continue ∷ k) p (λ m x. x) h; valuation = v; rest = rest; stands = stands; runs = go },
        )) step
      where
        not_outside : Outside ≡ InBody → ⊥
        not_outside f = cc

    -- ---- returns

    returns_found : (from : Option Operand) (result : Option Content) → returned s j.body.result from ≡ Some result → returned_value (contents_value v s.slots) from ≡ result_value v result →
        StepsTo (return from) k → FoundAfter (return from) k
    returns_found from result is same step = (
      k,
      refl,
      way.On,
      in_if (is_some (returned s j.body.result from)) way.On (some_is_some (returned s j.body.result from) result is),
      subst (λ o. Comes P j e types outcome n k (return_done o s)) (sym is) (record { valuation = v; rest = rest; stands = stands; trace = step.0; ending = step.1 ∙ ap Returned same; after = step.2 }),
    )

    pub follow_return : (from : Option Operand) → KeepsToRange (return from) → IsTyped P types j.body.result (return from) → Regarded s.slots (Act (return from) ∷ k) → StepsTo (return from) k → FoundAfter (return from) k
    follow_return None r t h step = by j.body.result refl
      where
        by : (o : Option ValueType) → j.body.result ≡ o → FoundAfter (return None) k
        by None is = returns_found None None (ap (λ o. returned s o None) is) refl step
        by (Some u) is = returns_found None (Some Unwritten) (ap (λ o. returned s o None) is) refl step
    follow_return (Some a) r t h step = by j.body.result refl t
      where
        by : (o : Option ValueType) → j.body.result ≡ o → IsSomeAnd o (λ u. IsOperandOf types u a) → FoundAfter (return (Some a)) k
        by None is t = absurd t
        by (Some u) is t =
            returns_found (Some a) (Some (operand_content s a))
            (ap (λ o. returned s o (Some a)) is ∙ ap (λ b. elim b as (λ _. Option (Option Content)) [ true ↦ Some (Some (operand_content s a)) | false ↦ None ]) (operand_fits types outcome s (Act (return (Some a)) ∷ k) u a t h))
            (operand_is v s a r) step
