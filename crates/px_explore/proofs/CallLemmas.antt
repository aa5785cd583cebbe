-- A way that is listed is taken by its steps, within a call too: there it is a choice of the call's step.
use Rattle.std.proofs.Common.{◌≡◌, ℕ, suc, ◌<◌, List, [], ◌∷◌, ◌++◌, map, length, Bool, true, false, nat_eq, Option, Some, None, refl, sym, ◌∙◌, ap, subst, arith, append-nil, append_assoc, length-append}
use Rattle.std.specs.Prelude.{Contains, ◌&&◌, not}
use Rattle.std.specs.List.{list_all, list_any}
use Rattle.std.proofs.lemmas.Bool.{ne_eqb}
use Rattle.std.proofs.lemmas.List.Elements.{All-contains}
use Rattle.std.proofs.lemmas.Option.{slice_get_within}
use Rattle.px_base.specs.declared.trace.ProcId.{ProcId}
use Rattle.px_base.specs.declared.trace.Site.{Site}
use Rattle.px_terms.specs.declared.conjuncts.Place.{Place as PlaceOf}
use Rattle.px_terms.specs.declared.conjuncts.Place.TheVariants as place
use Rattle.px_core.specs.declared.command.Operand.{Operand}
use Rattle.px_core.specs.CommandTree.{CommandTree, assign, unset, read, test, choose, loop, leave, load, store, malloc, free, input, call, return, break, continue, stop, divide}
use Rattle.px_core.specs.Control.{Item, Act, AfterHead, AfterBody, AfterStep}
use Rattle.px_entry.specs.declared.atoms.Atom.{Atom}
use Rattle.px_entry.specs.declared.atoms.Case.{Case}
use Rattle.px_entry.specs.declared.derivations.Rule.TheVariants as rule
use Rattle.px_entry.specs.declared.derivations.Step.{Step}
use Rattle.px_entry.specs.declared.entries.Entry.{Entry}
use Rattle.px_entry.specs.declared.tables.Gap.{Gap}
use Rattle.px_entry.specs.declared.tables.LongKind.{LongKind}
use Rattle.px_entry.specs.Cases.{is_freed, is_match, may_be_missing, numbers_of, atom_cases, missing_case}
use Rattle.px_entry.proofs.Lists.{Each, each_append, each_all}
use Rattle.px_callgraph.specs.declared.jobs.Callee.{Callee}
use Rattle.px_callgraph.specs.declared.jobs.Callee.TheVariants as callee
use Rattle.px_callgraph.specs.declared.states.State.{State}
use Rattle.px_callgraph.specs.declared.states.Way.{Way}
use Rattle.px_callgraph.specs.declared.states.Way.TheVariants as way
use Rattle.px_callgraph.specs.JobTree.{JobTree, callee_in}
use Rattle.px_callgraph.specs.States.{on}
use Rattle.px_callgraph.specs.Renaming.{Substitution, place_through}
use Rattle.px_callgraph.specs.Commands.{is_argument, argument_contents, command_ways, command_done}
use Rattle.px_callgraph.specs.Calls.{Calling, Stage, choosing, matching, unfit, entry_ways, drop_way, callee_ways, entry_in, choose_entry, case_way, cases_at, Taken, take_case, finish_call}
use Rattle.px_callgraph.specs.declared.outcomes.StepOutcome.TheVariants.{Next, Ends, Cut, Past}
use Rattle.px_callgraph.specs.Alternatives.{Walk, Leads, passes, limited, at, after_command, stage_ways, going_on, taking, ways, act, start}
use Rattle.px_callgraph.specs.Derivations.{still_there, take_listed, choice_way, then_take, take_choices, item_step, onward, fails_at, by_use, use_rule, by_item, course}
use Rattle.px_explore.specs.Taken.{steps_of, choice_of, with_choice, with_choices, steps_with}
use Rattle.px_explore.specs.Derived.{Reaches, ReachesInCall, reaches_by, ReachesWalk, Arrives}
use Rattle.px_explore.proofs.ChoiceLemmas.{choice_last}
use Rattle.px_explore.proofs.TakenLemmas.{is_call, listed, Numbered, numbered, found, taken_there, HasNoCall, leads_plain, arrives}
use Rattle.px_entry.proofs.TestLemmas.{number_itself}

-- ---- what is listed within a call

abbrev IsEntry : Way → Type 0
IsEntry (way.Entry n) = Unit {0}
IsEntry way.Drop = Unit {0}
IsEntry _ = ⊥

abbrev IsBlock : ℕ → Way → Type 0
IsBlock m (way.Atom n) = n < m
IsBlock m way.Missing = Unit {0}
IsBlock m _ = ⊥

entries : (n : ℕ) (xs : List Entry) → Each IsEntry (entry_ways n xs)
entries n [] = tt
entries n (x ∷ xs) = (tt, entries (suc n) xs)

drops : (gs : List Gap) → Each IsEntry (drop_way gs)
drops [] = tt
drops (g ∷ gs) = (tt, tt)

callees : (c : Callee) → Each IsEntry (callee_ways c)
callees (callee.Table t) = each_append IsEntry (entry_ways 0 t.entries) (drop_way t.drops) (entries 0 t.entries) (drops t.drops)
callees callee.Cycle = (tt, tt)
callees callee.LeftOut = (tt, tt)
callees callee.Unknown = (tt, tt)

number_below : (xs : List Atom) (n : ℕ) → Numbered 0 xs n → n < length xs
number_below xs n (i, a, e, g) = let r = slice_get_within xs i a g in omega (arith, r, e)

atoms_below : (xs : List Atom) (ns : List ℕ) → Each (Numbered 0 xs) ns → Each (λ c. IsBlock (length xs) (case_way c)) (atom_cases ns)
atoms_below xs [] h = tt
atoms_below xs (n ∷ ns) (h, hs) = (number_below xs n h, atoms_below xs ns hs)

missing_below : (m : ℕ) (b : Bool) → Each (λ c. IsBlock m (case_way c)) (missing_case b)
missing_below m true = (tt, tt)
missing_below m false = tt

each_map : (P : Way → Type 0) (xs : List Case) → Each (λ c. P (case_way c)) xs → Each P (map case_way xs)
each_map P [] h = tt
each_map P (x ∷ xs) h = (h.0, each_map P xs h.1)

blocks : (s : State) (used : List ℕ) (p : Atom) (o : Option PlaceOf) → Each (IsBlock (length s.atoms)) (map case_way (cases_at s used p o))
blocks s used p None = tt
blocks s used p (Some a) =
    let such : ℕ → Atom → Bool = λ n b. not (list_any (nat_eq n) used) && is_match s.vars a p.block (is_freed p.state) b in
    let numbers : List ℕ = numbers_of such 0 s.atoms in
    each_map (IsBlock (length s.atoms)) (cases_at s used p (Some a))
    (each_append (λ c. IsBlock (length s.atoms) (case_way c)) (atom_cases numbers) (missing_case (may_be_missing s.vars a)) (atoms_below s.atoms numbers (numbered such 0 s.atoms))
    (missing_below (length s.atoms) (may_be_missing s.vars a)))

abbrev IsListedAt : State → Stage → Way → Type 0
IsListedAt s choosing name = IsEntry name
IsListedAt s (matching x σ [] used) name = name ≡ way.On
IsListedAt s (matching x σ (p ∷ rest) used) name = IsBlock (length s.atoms) name
IsListedAt s unfit name = ⊥

stages : (j : JobTree) (s : State) (c : Calling) (stage : Stage) → Each (IsListedAt s stage) (stage_ways j s c stage)
stages j s c choosing = callees (callee_in j.callees c.proc)
stages j s c (matching x σ [] used) = listed (λ name. name ≡ way.On) _ way.On refl
stages j s c (matching x σ (p ∷ rest) used) = blocks s used p (place_through σ (place.Var p.place))
stages j s c unfit = tt

listed_at : (j : JobTree) (s : State) (c : Calling) (k : List Item) (stage : Stage) (name : Way) → Contains (ways j (going_on c k s stage)) name → IsListedAt s stage name
unfolding ways
listed_at j s c k stage name i = All-contains (IsListedAt s stage) (stage_ways j s c stage) name (each_all (IsListedAt s stage) (stage_ways j s c stage) (stages j s c stage)) i

-- ---- one way within a call

-- a choice
chosen : (j : JobTree) (v w : Walk) (n : ℕ) (name : Way) (steps : List Step) → choice_way n v ≡ name → Contains (ways j v) name → act j v name ≡ Next w → ReachesInCall j steps v →
    ReachesInCall j (with_choice n steps) w
chosen j v w n name steps e i a h = let st : Step = record { rule = rule.Call; choices = h.choices } in record {
  before = h.before;
  choices = h.choices ++ n ∷ [];
  steps_are = ap (with_choice n) h.steps_are ∙ choice_last n h.before st;
  at_call = h.at_call;
  own = h.own;
  reached = h.reached;
  step_is = λ more. ap (item_step j h.at_call h.at_call.control rule.Call) (append_assoc h.choices (n ∷ []) more) ∙ h.step_is (n ∷ more)
      ∙ ap (λ z. then_take (take_choices j more) (take_listed j v z)) e
      ∙ ap (then_take (take_choices j more)) (taken_there j v name (Next w) i a refl);
}

-- what the entry says: the call is over, and its step is done
module _ (j : JobTree) (v : Walk) (steps : List Step) (a : Leads) (t : take_listed j v way.On ≡ Some a) (h : ReachesInCall j steps v) where
  abbrev the_step : Step
  the_step = record { rule = rule.Call; choices = h.choices }

  step_done : item_step j h.at_call h.at_call.control rule.Call h.choices ≡ Some a
  step_done = ap (item_step j h.at_call h.at_call.control rule.Call) (sym (append-nil h.choices)) ∙ h.step_is [] ∙ t

  course_done : (n i : ℕ) (rest : List Step) → course (suc n) j i (the_step ∷ rest) (Next h.at_call) ≡ course n j (suc i) rest a
  course_done n i rest =
      ap (by_item j (course n j) i (the_step ∷ rest) h.at_call) h.own
      ∙ ap (onward (fails_at i rule.Call) (by_use (course n j) (suc i) rest (length h.at_call.state.atoms) (use_rule h.at_call.control rule.Call))) step_done

  call_done : Reaches j steps a
  call_done =
      let l : suc (length h.before) ≡ length steps = (let x = ap length h.steps_are in let y = length-append h.before (the_step ∷ []) in omega (arith, x, y)) in record {
        course_is = λ rest n. let r = h.reached.course_is (the_step ∷ rest) (suc n) in (
          r.0,
          ap (λ z. course r.0 j 0 (z ++ rest) (Next (start j))) h.steps_are ∙ ap (λ z. course r.0 j 0 z (Next (start j))) (append_assoc h.before (the_step ∷ []) rest) ∙ r.1
              ∙ course_done n (length h.before) rest ∙ ap (λ m. course n j m rest a) l,
        );
      }

-- ---- by the stage of the call

not_last : (m n : ℕ) → n < m → nat_eq n m ≡ false
not_last m n h = ne_eqb n m (λ e. let z : ⊥ = omega (arith, e, h) in z)

-- an entry is chosen
module _ (j : JobTree) (s : State) (c : Calling) (k : List Item) (steps : List Step) where
  in_choosing : (name : Way) → IsEntry name → Contains (ways j (going_on c k s choosing)) name → ReachesInCall j steps (going_on c k s choosing) → (a : Leads) →
      act j (going_on c k s choosing) name ≡ a → Arrives j (with_choices (choice_of (length s.atoms) name) steps) a
  unfolding act
  in_choosing (way.Entry n) l i h a e =
      let w : Walk = going_on c k s (choose_entry j.types s c.arguments (entry_in (callee_in j.callees c.proc) n)) in
      subst (Arrives j (with_choice n steps)) e (chosen j (going_on c k s choosing) w n (way.Entry n) steps refl i refl h)
  in_choosing way.Drop l i h a e = subst (Arrives j steps) e tt
  in_choosing _ l i h a e = absurd l

-- a block is met
module _ (j : JobTree) (s : State) (c : Calling) (k : List Item) (steps : List Step) (v : Walk) (n : ℕ) (name : Way) (t : Taken) (e : choice_way n v ≡ name) (i : Contains (ways j v) name)
    (h : ReachesInCall j steps v) where
  met_by : (o : Option LongKind) → act j v name ≡ limited s (Next (going_on c k t.state t.stage)) o → Arrives j (with_choice n steps) (limited s (Next (going_on c k t.state t.stage)) o)
  met_by None q = chosen j v (going_on c k t.state t.stage) n name steps e i q h
  met_by (Some kind) q = tt

  met : act j v name ≡ taking s c k t → (a : Leads) → act j v name ≡ a → Arrives j (with_choice n steps) a
  met q a p = subst (Arrives j (with_choice n steps)) (sym q ∙ p) (met_by (passes (on t.state)) q)

module _ (j : JobTree) (s : State) (c : Calling) (k : List Item) (steps : List Step) (x : Entry) (σ : Substitution) (p : Atom) (rest : List Atom) (used : List ℕ) where
  abbrev v : Walk
  v = going_on c k s (matching x σ (p ∷ rest) used)

  abbrev t : Way → Taken
  t name = take_case j.types x σ rest used p name (place_through σ (place.Var p.place)) s

  takes : (name : Way) → act j v name ≡ taking s c k (t name)
  unfolding act
  takes name = refl

  in_matching : (name : Way) → IsBlock (length s.atoms) name → Contains (ways j v) name → ReachesInCall j steps v → (a : Leads) → act j v name ≡ a →
      Arrives j (with_choices (choice_of (length s.atoms) name) steps) a
  in_matching (way.Atom n) l i h a e =
      met j s c k steps v n (way.Atom n) (t (way.Atom n)) (ap (λ b. elim b as (λ _. Way) [ true ↦ way.Missing | false ↦ way.Atom n ]) (not_last (length s.atoms) n l)) i h
      (takes (way.Atom n)) a e
  in_matching way.Missing l i h a e =
      met j s c k steps v (length s.atoms) way.Missing (t way.Missing)
      (ap (λ b. elim b as (λ _. Way) [ true ↦ way.Missing | false ↦ way.Atom (length s.atoms) ]) (number_itself (length s.atoms))) i h (takes way.Missing) a e
  in_matching _ l i h a e = absurd l

-- what the entry says is done
module _ (j : JobTree) (s : State) (c : Calling) (k : List Item) (steps : List Step) (x : Entry) (σ : Substitution) (used : List ℕ)
    (i : Contains (ways j (going_on c k s (matching x σ [] used))) way.On) (h : ReachesInCall j steps (going_on c k s (matching x σ [] used))) where
  abbrev u : Walk
  u = going_on c k s (matching x σ [] used)

  over : HasNoCall (act j u way.On)
  unfolding act
  over = leads_plain s (finish_call c x σ used s) (at k) (λ t. refl)

  in_finish : (a : Leads) → act j u way.On ≡ a → Arrives j steps a
  in_finish (Next w) e = subst (reaches_by j steps w) (sym (subst HasNoCall e over)) (call_done j u steps (Next w) (taken_there j u way.On (Next w) i e refl) h)
  in_finish (Ends q exit result) e = call_done j u steps (Ends q exit result) (taken_there j u way.On (Ends q exit result) i e refl) h
  in_finish (Cut q gap) e = tt
  in_finish (Past q) e = tt

in_stage : (j : JobTree) (s : State) (c : Calling) (k : List Item) (steps : List Step) (stage : Stage) (name : Way) → IsListedAt s stage name → Contains (ways j (going_on c k s stage)) name →
    ReachesInCall j steps (going_on c k s stage) → (a : Leads) → act j (going_on c k s stage) name ≡ a → Arrives j (with_choices (choice_of (length s.atoms) name) steps) a
in_stage j s c k steps choosing name l i h a e = in_choosing j s c k steps name l i h a e
in_stage j s c k steps (matching x σ [] used) name l i h a e =
    subst (λ z. Arrives j (with_choices (choice_of (length s.atoms) z) steps) a) (sym l)
    (in_finish j s c k steps x σ used (subst (Contains (ways j (going_on c k s (matching x σ [] used)))) l i) h a (sym (ap (act j (going_on c k s (matching x σ [] used))) l) ∙ e))
in_stage j s c k steps (matching x σ (p ∷ rest) used) name l i h a e = in_matching j s c k steps x σ p rest used name l i h a e
in_stage j s c k steps unfit name l i h a e = absurd l

-- ---- a call is entered

module _ (j : JobTree) (s : State) (to : Option ℕ) (proc : ProcId) (arguments : List Operand) (site : Site) (k : List Item) (steps : List Step) (h : Reaches j steps (Next (at (Act (call to proc arguments site) ∷ k) s))) where
  abbrev c : CommandTree
  c = call to proc arguments site

  abbrev here : Walk
  here = at (Act c ∷ k) s

  abbrev inside : Walk
  inside = after_command s c k (command_done j c way.On s).state

  abbrev put : List Step
  put = steps ++ record { rule = rule.Call; choices = [] } ∷ []

  entered_by : (o : Option LongKind) → take_listed j here way.On ≡ still_there (limited s (Next inside) o) → Arrives j put (limited s (Next inside) o)
  entered_by None t = record {
    before = steps;
    choices = [];
    steps_are = refl;
    at_call = here;
    own = refl;
    reached = h;
    step_is = λ more. ap (then_take (take_choices j more)) t;
  }
  entered_by (Some kind) t = tt

  found_there : Contains (ways j here) way.On → take_listed j here way.On ≡ still_there (act j here way.On)
  found_there i = ap (λ b. elim b as (λ _. Option Leads) [ true ↦ still_there (act j here way.On) | false ↦ None ]) (found (ways j here) way.On i)

  entered : Contains (ways j here) way.On → (a : Leads) → act j here way.On ≡ a → Arrives j put a
  unfolding act
  entered i a e = subst (Arrives j put) e (entered_by (passes (command_done j c way.On s)) (found_there i))

  only_on : (name : Way) → Contains (ways j here) name → name ≡ way.On
  unfolding ways
  only_on name i =
      let P : Way → Type 0 = λ z. z ≡ way.On in
      All-contains P (command_ways j s c) name (each_all P (command_ways j s c) (listed P (list_all is_argument (argument_contents s arguments)) way.On refl)) i

  enters : (name : Way) → Contains (ways j here) name → (a : Leads) → act j here name ≡ a → Arrives j (steps ++ steps_of (Act c ∷ k) s.atoms name) a
  enters name i a e =
      let o = only_on name i in
      subst (λ z. Arrives j (steps ++ steps_of (Act c ∷ k) s.atoms z) a) (sym o) (entered (subst (Contains (ways j here)) o i) a (sym (ap (act j here) o) ∙ e))

-- ---- any way

abbrev Goes : JobTree → State → List Step → Way → List Item → Type 0
Goes j s steps name k =
    Contains (ways j (at k s)) name → Reaches j steps (Next (at k s)) → (a : Leads) → act j (at k s) name ≡ a → Arrives j (steps ++ steps_of k s.atoms name) a

goes_plain : (j : JobTree) (s : State) (steps : List Step) (name : Way) (k : List Item) → is_call k ≡ false → Goes j s steps name k
goes_plain j s steps name k p i h a e = arrives j s k name steps p i h a e

command_goes : (j : JobTree) (s : State) (steps : List Step) (name : Way) (c : CommandTree) (k : List Item) → Goes j s steps name (Act c ∷ k)
command_goes j s steps name (call to proc arguments site) k = λ i h a e. enters j s to proc arguments site k steps h name i a e
command_goes j s steps name (assign to op a b) k = goes_plain j s steps name (Act (assign to op a b) ∷ k) refl
command_goes j s steps name (unset to) k = goes_plain j s steps name (Act (unset to) ∷ k) refl
command_goes j s steps name (read slot site) k = goes_plain j s steps name (Act (read slot site) ∷ k) refl
command_goes j s steps name (test to how a b site) k = goes_plain j s steps name (Act (test to how a b site) ∷ k) refl
command_goes j s steps name (choose slot first second) k = goes_plain j s steps name (Act (choose slot first second) ∷ k) refl
command_goes j s steps name (loop site head body step) k = goes_plain j s steps name (Act (loop site head body step) ∷ k) refl
command_goes j s steps name leave k = goes_plain j s steps name (Act leave ∷ k) refl
command_goes j s steps name (load to at' field block site) k = goes_plain j s steps name (Act (load to at' field block site) ∷ k) refl
command_goes j s steps name (store at' field block from site) k = goes_plain j s steps name (Act (store at' field block from site) ∷ k) refl
command_goes j s steps name (malloc to block site) k = goes_plain j s steps name (Act (malloc to block site) ∷ k) refl
command_goes j s steps name (free at' block site) k = goes_plain j s steps name (Act (free at' block site) ∷ k) refl
command_goes j s steps name (input to site) k = goes_plain j s steps name (Act (input to site) ∷ k) refl
command_goes j s steps name (return from) k = goes_plain j s steps name (Act (return from) ∷ k) refl
command_goes j s steps name break k = goes_plain j s steps name (Act break ∷ k) refl
command_goes j s steps name continue k = goes_plain j s steps name (Act continue ∷ k) refl
command_goes j s steps name (stop word site) k = goes_plain j s steps name (Act (stop word site) ∷ k) refl
command_goes j s steps name (divide to a b site) k = goes_plain j s steps name (Act (divide to a b site) ∷ k) refl

item_goes : (j : JobTree) (s : State) (steps : List Step) (name : Way) (k : List Item) → Goes j s steps name k
item_goes j s steps name [] = goes_plain j s steps name [] refl
item_goes j s steps name (Act c ∷ k) = command_goes j s steps name c k
item_goes j s steps name (AfterHead l ∷ k) = goes_plain j s steps name (AfterHead l ∷ k) refl
item_goes j s steps name (AfterBody l ∷ k) = goes_plain j s steps name (AfterBody l ∷ k) refl
item_goes j s steps name (AfterStep l ∷ k) = goes_plain j s steps name (AfterStep l ∷ k) refl

abbrev walk_at : State → Option (Calling × Stage) → List Item → Walk
walk_at s o k = record { state = s; call = o; control = k }

pub goes_there : (j : JobTree) (s : State) (o : Option (Calling × Stage)) (k : List Item) (steps : List Step) (name : Way) → Contains (ways j (walk_at s o k)) name → ReachesWalk j steps (walk_at s o k) →
    (a : Leads) → act j (walk_at s o k) name ≡ a → Arrives j (steps_with (walk_at s o k) name steps) a
goes_there j s None k steps name i h a e = item_goes j s steps name k i h a e
goes_there j s (Some (c, stage)) k steps name i h a e = in_stage j s c k steps stage name (listed_at j s c k stage name i) i h a e
