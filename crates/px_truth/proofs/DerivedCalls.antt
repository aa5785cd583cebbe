-- What a derived entry has entered: the first call that its trace leaves open is of a procedure whose table has an entry
-- with the same exit.
use Rattle.std.proofs.Common.{◌≡◌, ℕ, zero, suc, Bool, true, false, Option, Some, None, List, [], ◌∷◌, ◌++◌, length, inl, inr, ◌⊎◌, sym, ap, ◌∙◌, subst}
use Rattle.std.specs.List.{list_any}
use Rattle.px_base.specs.declared.trace.Site.{Site}
use Rattle.px_base.specs.declared.trace.Kind.{Kind}
use Rattle.px_base.specs.declared.trace.ProcId.{ProcId}
use Rattle.px_base.specs.declared.trace.Mark.{Mark}
use Rattle.px_terms.specs.declared.conjuncts.Content.{Content}
use Rattle.px_core.specs.CommandTree.{assign, unset, read, test, choose, loop, leave, load, store, malloc, free, input, call, return, break, continue, stop, divide}
use Rattle.px_core.specs.Control.{Item, Act, AfterHead, AfterBody, AfterStep}
use Rattle.px_entry.specs.declared.entries.Entry.{Entry}
use Rattle.px_entry.specs.declared.entries.Exit.{Exit}
use Rattle.px_entry.specs.declared.entries.Exit.TheVariants.{Ok, Error}
use Rattle.px_entry.specs.declared.derivations.Rule.{Rule}
use Rattle.px_entry.specs.declared.derivations.Rule.TheVariants as rule
use Rattle.px_entry.specs.declared.derivations.Step.{Step}
use Rattle.px_entry.specs.Rules.{same_rule}
use Rattle.px_callgraph.specs.declared.states.State.{State}
use Rattle.px_callgraph.specs.declared.states.Way.{Way}
use Rattle.px_callgraph.specs.declared.states.Way.TheVariants as way
use Rattle.px_callgraph.specs.JobTree.{JobTree, callee_in}
use Rattle.px_callgraph.specs.Calls.{entry_in}
use Rattle.px_callgraph.specs.declared.outcomes.StepOutcome.TheVariants.{Next, Ends, Cut, Past}
use Rattle.px_callgraph.specs.Alternatives.{Walk, Leads, ways, act, start}
use Rattle.px_callgraph.specs.Derivations.{same_way, still_there, take_listed, take_way, then_take, take_choices, choice_way, command_way, alone, item_step, is_silent, use_rule, uses_atom, Course, fails_at, comes_to, unsaid, fails_next, at_end, onward, by_use, by_item, course, Derives}
use Rattle.px_text_report.specs.Calls.{open_call}
use Rattle.px_truth.proofs.OpenCalls.{IsClosed, Opens, nothing_closed, entered_opens, none_open, first_open}
use Rattle.px_truth.proofs.EnteredCalls.{FitsExit, TablesFit, EndsInside, FitsEnd, Fits, act_fits}

module _ (j : JobTree) (tables : TablesFit j) where
  abbrev FitsSome : Option Leads → Type 0
  FitsSome None = Unit {0}
  FitsSome (Some a) = Fits j a

  -- ---- a step is one act or more

  still_fits : (a : Leads) → Fits j a → FitsSome (still_there a)
  still_fits (Next w) h = h
  still_fits (Ends s e r) h = h
  still_fits (Cut s gap) h = tt
  still_fits (Past s) h = tt

  listed_fits : (w : Walk) (name : Way) → Fits j (Next w) → FitsSome (take_listed j w name)
  listed_fits w name h = by (list_any (same_way name) (ways j w))
    where
      by : (b : Bool) → FitsSome (elim b as (λ _. Option Leads) [ true ↦ still_there (act j w name) | false ↦ None ])
      by true = still_fits (act j w name) (act_fits j tables w name h)
      by false = tt

  way_fits : (name : Walk → Way) (a : Leads) → Fits j a → FitsSome (take_way j name a)
  way_fits name (Next w) h = listed_fits w (name w) h
  way_fits name (Ends s e r) h = tt
  way_fits name (Cut s gap) h = tt
  way_fits name (Past s) h = tt

  then_fits : (f : Leads → Option Leads) → ((a : Leads) → Fits j a → FitsSome (f a)) → (o : Option Leads) → FitsSome o → FitsSome (then_take f o)
  then_fits f h None k = tt
  then_fits f h (Some a) k = h a k

  choices_fit : (cs : List ℕ) (a : Leads) → Fits j a → FitsSome (take_choices j cs a)
  choices_fit [] a h = way_fits (λ w. way.On) a h
  choices_fit (c ∷ cs) a h = then_fits (take_choices j cs) (choices_fit cs) (take_way j (choice_way c) a) (way_fits (choice_way c) a h)

  named_fits : (w : Walk) (o : Option Way) → Fits j (Next w) → FitsSome (elim o as (λ _. Option Leads) [ None ↦ None | Some name ↦ take_listed j w name ])
  named_fits w None h = tt
  named_fits w (Some name) h = listed_fits w name h

  step_fits : (w : Walk) (k : List Item) (r : Rule) (cs : List ℕ) → Fits j (Next w) → FitsSome (item_step j w k r cs)
  step_fits w [] r cs h = tt
  step_fits w (Act (call to proc arguments site) ∷ k) rule.Call cs h = then_fits (take_choices j cs) (choices_fit cs) (take_listed j w way.On) (listed_fits w way.On h)
  step_fits w (Act (call to proc arguments site) ∷ k) _ cs h = tt
  step_fits w (Act (assign to op a b) ∷ k) r cs h = named_fits w (command_way w.state.atoms (assign to op a b) r cs) h
  step_fits w (Act (unset to) ∷ k) r cs h = named_fits w (command_way w.state.atoms (unset to) r cs) h
  step_fits w (Act (read slot site) ∷ k) r cs h = named_fits w (command_way w.state.atoms (read slot site) r cs) h
  step_fits w (Act (test to how a b site) ∷ k) r cs h = named_fits w (command_way w.state.atoms (test to how a b site) r cs) h
  step_fits w (Act (choose slot first second) ∷ k) r cs h = named_fits w (command_way w.state.atoms (choose slot first second) r cs) h
  step_fits w (Act (loop site head body step) ∷ k) r cs h = named_fits w (command_way w.state.atoms (loop site head body step) r cs) h
  step_fits w (Act leave ∷ k) r cs h = named_fits w (command_way w.state.atoms leave r cs) h
  step_fits w (Act (load to a field block site) ∷ k) r cs h = named_fits w (command_way w.state.atoms (load to a field block site) r cs) h
  step_fits w (Act (store a field block from site) ∷ k) r cs h = named_fits w (command_way w.state.atoms (store a field block from site) r cs) h
  step_fits w (Act (malloc to block site) ∷ k) r cs h = named_fits w (command_way w.state.atoms (malloc to block site) r cs) h
  step_fits w (Act (free a block site) ∷ k) r cs h = named_fits w (command_way w.state.atoms (free a block site) r cs) h
  step_fits w (Act (input to site) ∷ k) r cs h = named_fits w (command_way w.state.atoms (input to site) r cs) h
  step_fits w (Act (return from) ∷ k) r cs h = named_fits w (command_way w.state.atoms (return from) r cs) h
  step_fits w (Act break ∷ k) r cs h = named_fits w (command_way w.state.atoms break r cs) h
  step_fits w (Act continue ∷ k) r cs h = named_fits w (command_way w.state.atoms continue r cs) h
  step_fits w (Act (stop word site) ∷ k) r cs h = named_fits w (command_way w.state.atoms (stop word site) r cs) h
  step_fits w (Act (divide to a b site) ∷ k) r cs h = named_fits w (command_way w.state.atoms (divide to a b site) r cs) h
  step_fits w (AfterHead l ∷ k) rule.Unroll cs h = named_fits w (alone cs way.On) h
  step_fits w (AfterHead l ∷ k) _ cs h = tt
  step_fits w (AfterBody l ∷ k) r cs h = tt
  step_fits w (AfterStep l ∷ k) r cs h = tt

  -- ---- the course

  -- the end to which a course comes
  abbrev FitsCourse : Course → Type 0
  FitsCourse (fails_at i r) = Unit {0}
  FitsCourse (comes_to i s e r rest) = FitsEnd j s.trace e
  FitsCourse unsaid = Unit {0}

  abbrev Going : (ℕ → List Step → Leads → Course) → Type 0
  Going go = (i : ℕ) (steps : List Step) (a : Leads) → Fits j a → FitsCourse (go i steps a)

  next_fits : (i : ℕ) (steps : List Step) → FitsCourse (fails_next i steps)
  next_fits i [] = tt
  next_fits i (st ∷ steps) = tt

  ends_fit : (i : ℕ) (s : State) (e : Exit) (r : Option Content) (steps : List Step) → FitsEnd j s.trace e → FitsCourse (at_end i s e r steps)
  ends_fit i s e r [] h = tt
  ends_fit i s e r (st ∷ steps) h = by (same_rule st.rule rule.End) st.choices
    where
      by : (b : Bool) (cs : List ℕ) → FitsCourse (elim b as (λ _. Course) [ true ↦ elim cs as (λ _. Course) [ [] ↦ comes_to i s e r steps | _ ∷ _ ↦ fails_at i st.rule ] | false ↦ fails_at i st.rule ])
      by true [] = h
      by true (c ∷ cs) = tt
      by false cs = tt

  use_fits : (go : ℕ → List Step → Leads → Course) → Going go → (i : ℕ) (steps : List Step) (n : ℕ) (o : Option Rule) (a : Leads) → Fits j a → FitsCourse (by_use go i steps n o a)
  use_fits go g i steps n None a h = g i steps a h
  use_fits go g i [] n (Some r) a h = tt
  use_fits go g i (st ∷ steps) n (Some r) a h = by (uses_atom r n st)
    where
      by : (b : Bool) → FitsCourse (elim b as (λ _. Course) [ true ↦ go (suc i) steps a | false ↦ fails_at i st.rule ])
      by true = g (suc i) steps a h
      by false = tt

  onward_fits : (failed : Course) (go : Leads → Course) (o : Option Leads) → FitsCourse failed → ((a : Leads) → Fits j a → FitsCourse (go a)) → FitsSome o → FitsCourse (onward failed go o)
  onward_fits failed go None f g h = f
  onward_fits failed go (Some a) f g h = g a h

  item_fits : (go : ℕ → List Step → Leads → Course) → Going go → (i : ℕ) (steps : List Step) (w : Walk) (b : Bool) → Fits j (Next w) → FitsCourse (by_item j go i steps w b)
  item_fits go g i steps w true h = onward_fits (fails_next i steps) (go i steps) (take_listed j w way.On) (next_fits i steps) (g i steps) (listed_fits w way.On h)
  item_fits go g i [] w false h = tt
  item_fits go g i (st ∷ steps) w false h =
      onward_fits (fails_at i st.rule) (by_use go (suc i) steps (length w.state.atoms) (use_rule w.control st.rule)) (item_step j w w.control st.rule st.choices) tt
      (use_fits go g (suc i) steps (length w.state.atoms) (use_rule w.control st.rule)) (step_fits w w.control st.rule st.choices h)

  course_fits : (n : ℕ) → Going (course n j)
  course_fits zero i steps a h = tt
  course_fits (suc n) i steps (Next w) h = item_fits (course n j) (course_fits n) i steps w (is_silent w.control) h
  course_fits (suc n) i steps (Ends s e r) h = ends_fit i s e r steps h
  course_fits (suc n) i steps (Cut s gap) h = next_fits i steps
  course_fits (suc n) i steps (Past s) h = next_fits i steps

  -- ---- entries

  pub derived_ends : (x : Entry) (steps : List Step) → Derives j x steps → FitsEnd j x.trace x.exit
  derived_ends x steps d =
      subst (λ z. FitsEnd j x.trace z) (sym d.is_end.exit) (subst (λ t. FitsEnd j t d.exit) (sym d.is_end.trace)
      (subst FitsCourse d.runs.1 (course_fits d.runs.0 0 steps (Next (start j)) nothing_closed)))

  exit_fits : (e : Exit) (t : List Mark) → FitsEnd j t e → FitsExit e t
  exit_fits Ok t h = h
  exit_fits (Error kind site) t (inl closed) = ([], closed)
  exit_fits (Error kind site) t (inr inside) = more (subst (λ e. FitsExit e inside.entry.trace) inside.exit (tables inside.proc inside.number inside.entry inside.is))
    where
      more : FitsExit (Error kind site) inside.entry.trace → FitsExit (Error kind site) t
      more (calls, opens) = (calls ++ inside.proc ∷ [], subst (Opens (calls ++ inside.proc ∷ [])) (sym inside.trace) (entered_opens calls inside.before inside.entry.trace inside.proc inside.from inside.closed opens))

  -- the trace of a derived entry is as tables of its callers ask for
  pub derived_fits : (x : Entry) (steps : List Step) → Derives j x steps → FitsExit x.exit x.trace
  derived_fits x steps d = exit_fits x.exit x.trace (derived_ends x steps d)

  -- The first call that the trace of an error leaves open is of a procedure whose table has an entry with this error.
  pub open_of : (x : Entry) (steps : List Step) (kind : Kind) (site : Site) (g : ProcId) → Derives j x steps → x.exit ≡ Error kind site → open_call x.trace ≡ Some g →
      (n : ℕ) × (y : Entry) × (entry_in (callee_in j.callees g) n ≡ Some y) × (y.exit ≡ Error kind site)
  open_of x steps kind site g d e o = by (subst (FitsEnd j x.trace) e (derived_ends x steps d))
    where
      none : None ≡ Some g → ⊥
      none f = cc

      same : (f : ProcId) → Some f ≡ Some g → f ≡ g
      same f p = cc

      inside : (h : EndsInside j kind site x.trace) → FitsExit (Error kind site) h.entry.trace → (n : ℕ) × (y : Entry) × (entry_in (callee_in j.callees g) n ≡ Some y) × (y.exit ≡ Error kind site)
      inside h (more, opens) =
          let first : h.proc ≡ g = same h.proc (sym (first_open more h.before h.entry.trace h.proc h.from h.closed opens) ∙ sym (ap open_call h.trace) ∙ o) in
          (h.number, h.entry, subst (λ f. entry_in (callee_in j.callees f) h.number ≡ Some h.entry) first h.is, h.exit)

      by : IsClosed x.trace ⊎ EndsInside j kind site x.trace → (n : ℕ) × (y : Entry) × (entry_in (callee_in j.callees g) n ≡ Some y) × (y.exit ≡ Error kind site)
      by (inl closed) = absurd (none (sym (none_open x.trace closed) ∙ o))
      by (inr h) = inside h (subst (λ z. FitsExit z h.entry.trace) h.exit (tables h.proc h.number h.entry h.is))
