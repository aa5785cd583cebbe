-- The end of a path is a valid triple.
use Rattle.std.proofs.Common.{◌≡◌, ℕ, zero, suc, ◌≤◌, Option, Some, None, List, [], ◌∷◌, ◌++◌, length, take, replicate, slice_get, refl, sym, ap, ap₂, ◌∙◌, subst, subst₂, inr, arith, append_assoc, append-nil}
use Rattle.std.specs.Prelude.{IsSomeAnd}
use Rattle.px_base.specs.declared.trace.Mark.{Mark}
use Rattle.px_terms.specs.Valuations.{Valuation, Fits}
use Rattle.px_terms.specs.Conjuncts.{IsTrueUnder}
use Rattle.px_terms.specs.declared.types.Value.{Value}
use Rattle.px_terms.specs.declared.types.Value.TheVariants as value
use Rattle.px_terms.specs.declared.types.ValueType.{ValueType}
use Rattle.px_terms.specs.declared.variables.VarInfo.{VarInfo}
use Rattle.px_terms.specs.declared.variables.Sort.TheVariants as sort
use Rattle.px_terms.specs.declared.conjuncts.Content.{Content}
use Rattle.px_terms.specs.declared.conjuncts.Content.TheVariants.{Unwritten}
use Rattle.px_core.specs.Control.{Item, acts}
use Rattle.px_core.specs.Constants.{HasConstantsInRange}
use Rattle.px_core.specs.BodyTree.{BodyTree}
use Rattle.px_entry.specs.declared.atoms.Atom.{Atom}
use Rattle.px_entry.specs.declared.entries.Entry.{Entry}
use Rattle.px_entry.specs.declared.entries.Exit.{Exit}
use Rattle.px_entry.specs.declared.entries.Exit.TheVariants.{Ok, Error}
use Rattle.px_entry.specs.Constraint.{constraint_of, separate}
use Rattle.px_entry.specs.Standing.{content_value, contents_value}
use Rattle.px_entry.proofs.Lists.{Each, all_each, each_append}
use Rattle.px_callgraph.specs.declared.states.State.{State}
use Rattle.px_callgraph.specs.JobTree.{JobTree}
use Rattle.px_callgraph.specs.States.{goes, ends, info, given_slots, given_variables, start_of}
use Rattle.px_callgraph.specs.Alternatives.{fallen}
use Rattle.px_callgraph.specs.Derivations.{IsEndOf}
use Rattle.px_meaning.specs.Heaps.{HeapMap, no_blocks, join, AreApart}
use Rattle.px_meaning.specs.Calls.{Ending, Returned}
use Rattle.px_meaning.specs.Events.{mark_of}
use Rattle.px_meaning.specs.Steps.{Next, Goes, Ends, ProcedureCalls, step}
use Rattle.px_meaning.specs.CoreCalls.{CoreProgram, CoreCalls, SeenCalls, Runs, Behind, first_slots}
use Rattle.px_meaning.specs.Triples.{heap_of, values_from, result_value, ending_of, HasResult, IsValid}
use Rattle.px_meaning.proofs.Joins.{join_join}
use Rattle.px_meaning.proofs.MoreSteps.{step_more}
use Rattle.px_meaning.proofs.OneMore.{one_more}
use Rattle.px_callgraph.specs.Callees.{NamedIn}
use Rattle.px_soundness.proofs.WellFormed.{Good, WellTyped, EndsWell, WellFormed}
use Rattle.px_soundness.proofs.AtomHeaps.{Placed, Kept, placed_to, heap_append, apart_within}
use Rattle.px_soundness.proofs.Contents.{variable_is_content}
use Rattle.px_soundness.proofs.WellTypedSteps.{variable_good, other_usable}
use Rattle.px_soundness.proofs.CompleteSteps.{start_complete}
use Rattle.px_soundness.proofs.Controls.{name_own, acts_keep, acts_open}
use Rattle.px_soundness.proofs.Sound.{Holds, Back, WholeGoal, From, Sound}
use Rattle.px_soundness.proofs.Walks.{Machine}
use Rattle.px_soundness.proofs.Paths.{Path, falls, stops, follows}
use Rattle.px_soundness.proofs.PlacedAtoms.{constraint_places}
use Rattle.px_check.proofs.ValueLemmas.{each_split}

-- ---- runs

module _ (bodies : ℕ → Option BodyTree) (j : JobTree) where
  abbrev pub P : CoreProgram
  P = record { types = j.types; bodies = bodies }

  abbrev pub calls : ProcedureCalls Mark
  calls = SeenCalls mark_of None P

  -- the machine comes to this end in fewer than n steps
  abbrev Ran : ℕ → List Mark → Ending → HeapMap → WholeGoal
  Ran n t ending end trace (Goes k slots heap) = Runs mark_of None P n k slots heap trace t ending end
  Ran n t ending end trace (Ends ending' heap) = (t ≡ trace) × (ending ≡ ending') × (end ≡ heap)

  ran_after : (n : ℕ) (so_far t : List Mark) (ending : Ending) (end : HeapMap) (events : List Mark) (next : Next) →
      From so_far (Ran n t ending end) events next → Behind (λ k slots heap so_far. Runs mark_of None P n k slots heap so_far t ending end) so_far t ending end events next
  ran_after n so_far t ending end events (Goes k slots heap) h = h
  ran_after n so_far t ending end events (Ends ending' heap) h = h

  -- a step and the run after it
  step_run : (n : ℕ) (i : Item) (k : List Item) (slots : List Value) (heap : HeapMap) (so_far t : List Mark) (ending : Ending) (end : HeapMap) →
      step mark_of None j.types calls i k slots heap (From so_far (Ran n t ending end)) → (m : ℕ) × Runs mark_of None P m (i ∷ k) slots heap so_far t ending end
  step_run n i k slots heap so_far t ending end h =
      one_more mark_of None P n i k slots heap so_far t ending end
      (step_more mark_of j.types None None calls calls (λ made a. a) (λ f arguments heap t ending end c. c) (From so_far (Ran n t ending end))
      (Behind (λ k slots heap so_far. Runs mark_of None P n k slots heap so_far t ending end) so_far t ending end) (ran_after n so_far t ending end) i k slots heap h)

  module _ (t : State) (e : Exit) (r : Option Content) (v : Valuation) (further : HeapMap) where
    pub record RanTo (s : State) (k : List Item) : Type 0 where
      pub back : Back v s t further
      pub steps : ℕ
      pub runs : Runs mark_of None P steps k (contents_value v s.slots) (join (heap_of v s.atoms) (join (heap_of v back.new) further)) s.trace t.trace (ending_of v e r) (join (heap_of v t.atoms) further)

    fallen_value : (o : Option ValueType) → result_value v (fallen o) ≡ value.Unwritten
    fallen_value None = refl
    fallen_value (Some u) = refl

    at_once : Holds v t.vars t.pure t.atoms further → e ≡ Ok → r ≡ fallen j.body.result → RanTo t []
    at_once h ok same = record {
      back = record { new = []; pre = sym (append-nil t.pre); holds = h; keeps = λ kept. kept };
      steps = 1;
      runs = (refl, ap (λ x. ending_of v x r) ok ∙ ap (λ x. ending_of v Ok x) same ∙ ap Returned (fallen_value j.body.result), refl);
    }

    by_step : (s u : State) (i : Item) (k k' : List Item) → Sound (Machine j calls i k s) s k' u goes → RanTo u k' → RanTo s (i ∷ k)
    unfolding Sound
    by_step s u i k k' sound ran =
        let F2 : HeapMap = join (heap_of v ran.back.new) further in
        let (b, go) = sound v F2 ran.back.holds in
        let new : List Atom = b.new ++ ran.back.new in
        let both : join (heap_of v new) further ≡ join (heap_of v b.new) F2 = ap (λ g. join g further) (heap_append v b.new ran.back.new) ∙ join_join (heap_of v b.new) (heap_of v ran.back.new) further in
        let (m, runs) = step_run ran.steps i k (contents_value v s.slots) (join (heap_of v s.atoms) (join (heap_of v b.new) F2)) s.trace t.trace (ending_of v e r) (join (heap_of v t.atoms) further)
        (go (Ran ran.steps t.trace (ending_of v e r) (join (heap_of v t.atoms) further)) ran.runs) in
        record {
          back = record {
            new = new;
            pre = ran.back.pre ∙ ap (λ x. x ++ ran.back.new) b.pre ∙ append_assoc s.pre b.new ran.back.new;
            holds = subst (Holds v s.vars s.pure s.atoms) (sym both) b.holds;
            keeps = λ kept. ran.back.keeps (b.keeps kept);
          };
          steps = m;
          runs = subst (λ g. Runs mark_of None P m (i ∷ k) (contents_value v s.slots) (join (heap_of v s.atoms) g) s.trace t.trace (ending_of v e r) (join (heap_of v t.atoms) further)) (sym both) runs;
        }

    by_end : (s : State) (i : Item) (k : List Item) → Holds v t.vars t.pure t.atoms further → Sound (Machine j calls i k s) s [] t (ends e r) → RanTo s (i ∷ k)
    unfolding Sound
    by_end s i k h sound =
        let (b, go) = sound v further h in
        let (m, runs) = step_run 0 i k (contents_value v s.slots) (join (heap_of v s.atoms) (join (heap_of v b.new) further)) s.trace t.trace (ending_of v e r) (join (heap_of v t.atoms) further)
        (go (Ran 0 t.trace (ending_of v e r) (join (heap_of v t.atoms) further)) (refl, refl, refl)) in
        record { back = b; steps = m; runs = runs }

    pub path_runs : Holds v t.vars t.pure t.atoms further → (s : State) (k : List Item) → Path j calls t e r s k → RanTo s k
    path_runs h s [] (falls is ok same) = subst (λ (z : State). RanTo z []) (sym is) (at_once h ok same)
    path_runs h s (i ∷ k) (stops sound) = by_end s i k h sound
    path_runs h s (i ∷ k) (follows {u = u} {k' = k'} sound p) = by_step s u i k k' sound (path_runs h u k' p)

-- ---- the start

-- the variables of the parameters, the first of which has a number
module _ (vars : List VarInfo) where
  abbrev AreAt : ℕ → List ValueType → Type 0
  AreAt x [] = Unit {0}
  AreAt x (t ∷ ts) = (slice_get vars x ≡ Some (info sort.Given t)) × AreAt (suc x) ts

  given_good : (x : ℕ) (ts : List ValueType) → AreAt x ts → Each (Good vars []) (given_slots x ts)
  given_good x [] h = tt
  given_good x (t ∷ ts) h = (variable_good vars [] x (info sort.Given t) h.0 (other_usable vars [] x (info sort.Given t) h.0 refl), given_good (suc x) ts h.1)

  given_values : (v : Valuation) → Fits vars v → (x : ℕ) (ts : List ValueType) → AreAt x ts → contents_value v (given_slots x ts) ≡ values_from v x (length ts)
  given_values v fits x [] h = refl
  given_values v fits x (t ∷ ts) h = ap₂ (λ u (us : List Value). u ∷ us) (variable_is_content v t x (fits.sorts x (info sort.Given t) h.0)) (given_values v fits (suc x) ts h.1)

are_at : (before ts : List ValueType) (vars : List VarInfo) (x : ℕ) → vars ≡ given_variables before ++ given_variables ts → x ≡ length (given_variables before) → AreAt vars x ts
are_at before [] vars x e at = tt
are_at before (t ∷ ts) vars x e at = (
  ap (λ xs. slice_get xs x) e ∙ ap (slice_get (given_variables before ++ given_variables (t ∷ ts))) at ∙ here (given_variables before) (info sort.Given t) (given_variables ts),
  are_at (before ++ t ∷ []) ts vars (suc x) (e ∙ more before t ts) (ap suc at ∙ longer before t),
)
  where
    here : (xs : List VarInfo) (i : VarInfo) (ys : List VarInfo) → slice_get (xs ++ i ∷ ys) (length xs) ≡ Some i
    here [] i ys = refl
    here (x ∷ xs) i ys = here xs i ys

    more : (xs : List ValueType) (t : ValueType) (ts : List ValueType) → given_variables xs ++ given_variables (t ∷ ts) ≡ given_variables (xs ++ t ∷ []) ++ given_variables ts
    more [] t ts = refl
    more (x ∷ xs) t ts = ap (λ (is : List VarInfo). info sort.Given x ∷ is) (more xs t ts)

    longer : (xs : List ValueType) (t : ValueType) → suc (length (given_variables xs)) ≡ length (given_variables (xs ++ t ∷ []))
    longer [] t = refl
    longer (x ∷ xs) t = ap suc (longer xs t)

each_take : {A : Type 0} (Q : A → Type 0) (n : ℕ) (xs : List A) → Each Q xs → Each Q (take n xs)
each_take Q zero xs h = tt
each_take Q (suc n) [] h = tt
each_take Q (suc n) (x ∷ xs) h = (h.0, each_take Q n xs h.1)

each_replicate : {A : Type 0} (Q : A → Type 0) (n : ℕ) (x : A) → Q x → Each Q (replicate n x)
each_replicate Q zero x h = tt
each_replicate Q (suc n) x h = (h, each_replicate Q n x h)

pub slots_are : (v : Valuation) (n m : ℕ) (cs : List Content) → n ≤ m → contents_value v (take n (cs ++ replicate m Unwritten)) ≡ first_slots n (contents_value v cs)
slots_are v zero m cs l = refl
slots_are v (suc n) m (c ∷ cs) l = ap (λ (us : List Value). content_value v c ∷ us) (slots_are v n m cs (omega arith))
slots_are v (suc n) zero [] l = let f : ⊥ = omega arith in absurd f
slots_are v (suc n) (suc m) [] l = ap (λ (us : List Value). value.Unwritten ∷ us) (slots_are v n m [] (omega arith))

module _ (j : JobTree) (range : HasConstantsInRange j.body) where
  abbrev b : BodyTree
  b = j.body

  parameters_at : AreAt (given_variables b.parameters) 0 b.parameters
  parameters_at = are_at [] b.parameters (given_variables b.parameters) 0 refl refl

  pub start_well_formed : WellFormed j (start_of b) (acts b.commands [])
  start_well_formed = record {
    well_typed = record {
      slots = each_take (Good (given_variables b.parameters) []) b.slots (given_slots 0 b.parameters ++ replicate b.slots Unwritten)
          (each_append (Good (given_variables b.parameters) []) (given_slots 0 b.parameters) (replicate b.slots Unwritten) (given_good (given_variables b.parameters) 0 b.parameters parameters_at) (each_replicate _ b.slots Unwritten tt));
      atoms = tt;
      own = tt;
    };
    complete = start_complete j;
    keeps = acts_keep (λ f. NamedIn f b.commands) b.commands [] (range, name_own (λ f. NamedIn f b.commands) b.commands (λ f n. n)) tt;
    opens = acts_open b.commands [] [] refl;
  }

  start_slots : (v : Valuation) → Fits (given_variables b.parameters) v → contents_value v (start_of b).slots ≡ first_slots b.slots (values_from v 0 (length b.parameters))
  start_slots v fits = slots_are v b.slots b.slots (given_slots 0 b.parameters) (omega arith) ∙ ap (first_slots b.slots) (given_values (given_variables b.parameters) v fits 0 b.parameters parameters_at)

-- ---- the entry

-- the entry that a path gives
abbrev pub entry_at : JobTree → State → Exit → Option Content → List Value → Entry
entry_at j t e r model = record { proc = j.proc; trace = t.trace; exit = e; result = r; vars = t.vars; pure = t.pure; pre = t.pre; post = t.atoms; model = model }

pub entry_is : (j : JobTree) (t : State) (e : Exit) (r : Option Content) (x : Entry) → IsEndOf j t e r x → entry_at j t e r x.model ≡ x
entry_is j t e r x h =
    sym (ap (λ y. record x { proc = y }) h.proc
    ∙ ap (λ y. record x { proc = j.proc; trace = y }) h.trace
    ∙ ap (λ y. record x { proc = j.proc; trace = t.trace; exit = y }) h.exit
    ∙ ap (λ y. record x { proc = j.proc; trace = t.trace; exit = e; result = y }) h.result
    ∙ ap (λ y. record x { proc = j.proc; trace = t.trace; exit = e; result = r; vars = y }) h.vars
    ∙ ap (λ y. record x { proc = j.proc; trace = t.trace; exit = e; result = r; vars = t.vars; pure = y }) h.pure
    ∙ ap (λ y. record x { proc = j.proc; trace = t.trace; exit = e; result = r; vars = t.vars; pure = t.pure; pre = y }) h.pre
    ∙ ap (λ y. record x { proc = j.proc; trace = t.trace; exit = e; result = r; vars = t.vars; pure = t.pure; pre = t.pre; post = y }) h.post)

module _ (bodies : ℕ → Option BodyTree) (j : JobTree) (range : HasConstantsInRange j.body) (kept : bodies j.proc.0 ≡ Some j.body)
    (t : State) (e : Exit) (r : Option Content) (path : Path j (calls bodies j) t e r (start_of j.body) (acts j.body.commands [])) (well_typed : WellTyped j.types t) (well : EndsWell j t (ends e r)) where
  result_of : (v : Valuation) → HasResult v e r
  result_of v = by e refl well
    where
      by : (x : Exit) → e ≡ x → EndsWell j t (ends x r) → HasResult v x r
      by Ok is w = tt
      by (Error kind site) is w = ap (result_value v) w

  -- an execution from the blocks that it finds, beside a further heap
  taken : (v : Valuation) (further : HeapMap) → Fits t.vars v → Each (IsTrueUnder v) t.pure → Placed v t.atoms → AreApart (heap_of v t.atoms) further →
      Kept v t.pre t.atoms × CoreCalls (P bodies j) j.proc.0 (values_from v 0 (length j.body.parameters)) (join (heap_of v t.pre) further) t.trace (ending_of v e r) (join (heap_of v t.atoms) further)
  taken v further fits true_of placed apart =
      let ran = path_runs bodies j t e r v further (record { fits = fits; true_of = true_of; placed = placed; apart = apart }) (start_of j.body) (acts j.body.commands []) path in (
        ran.back.keeps (record { placed = tt; within = λ n none. refl }),
        (
          ran.steps,
          subst (λ (o : Option BodyTree). IsSomeAnd o (λ b. Runs mark_of None (P bodies j) ran.steps (acts b.commands []) (first_slots b.slots (values_from v 0 (length j.body.parameters))) (join (heap_of v t.pre) further) [] t.trace (ending_of v e r) (join (heap_of v t.atoms) further)))
              (sym kept)
              (subst₂ (λ (z : List Value) (g : HeapMap). Runs mark_of None (P bodies j) ran.steps (acts j.body.commands []) z g [] t.trace (ending_of v e r) (join (heap_of v t.atoms) further))
              (start_slots j range v ran.back.holds.fits) (ap (λ xs. join (heap_of v xs) further) (sym ran.back.pre)) ran.runs),
        ),
      )

  pub end_valid : (model : List Value) → IsValid (CoreCalls (P bodies j) j.proc.0) (length j.body.parameters) (entry_at j t e r model)
  end_valid model v h =
      let all = each_split (IsTrueUnder v) t.pure (separate t.vars t.atoms) (all_each (IsTrueUnder v) (constraint_of t.vars t.pure t.atoms) h.true_of) in
      let placed = constraint_places j.types t.vars t.pure v h.fits t.atoms well_typed.atoms well_typed.own all.1 in
      let kept = (taken v no_blocks h.fits all.0 placed (λ n. inr refl)).0 in
      record {
        before = heap_of v t.pre;
        after = heap_of v t.atoms;
        finds = (placed_to v t.pre kept.placed, refl);
        leaves = (placed_to v t.atoms placed, refl);
        result = result_of v;
        takes = λ further apart. (apart_within (heap_of v t.pre) (heap_of v t.atoms) further kept.within apart, (taken v further h.fits all.0 placed apart).1);
      }
