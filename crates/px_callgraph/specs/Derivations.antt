-- Derivations: where the steps of a path lead, and which entries they derive.
--
-- A step takes ways that are listed, each where the one before led. Nothing is asked of a solver, and limits are
-- those of the acts.
use Rattle.std.specs.Prelude.{◌≡◌, ◌⊎◌, ℕ, zero, suc, ◌&&◌, Bool, true, false, nat_eq, List, [], ◌∷◌, length, Option, Some, None, slice_get}
use Rattle.std.specs.List.{list_any}
use Rattle.px_terms.specs.declared.conjuncts.Content.{Content}
use Rattle.px_core.specs.CommandTree.{CommandTree, assign, unset, read, test, choose, loop, leave, load, store, malloc, free, input, call, return, break, continue, divide}
use Rattle.px_core.specs.Control.{Item, Act, AfterHead, AfterBody, AfterStep}
use Rattle.px_entry.specs.declared.atoms.Atom.{Atom}
use Rattle.px_entry.specs.declared.entries.Entry.{Entry}
use Rattle.px_entry.specs.declared.entries.Exit.{Exit}
use Rattle.px_entry.specs.declared.derivations.Rule.{Rule}
use Rattle.px_entry.specs.declared.derivations.Rule.TheVariants as rule
use Rattle.px_entry.specs.declared.derivations.Step.{Step}
use Rattle.px_entry.specs.Cases.{is_freed}
use Rattle.px_entry.specs.Rules.{same_rule}
use Rattle.px_entry.specs.Satisfied.{IsSatisfied}
use Rattle.px_callgraph.specs.declared.states.State.{State}
use Rattle.px_callgraph.specs.declared.states.Way.{Way}
use Rattle.px_callgraph.specs.declared.states.Way.TheVariants as way
use Rattle.px_callgraph.specs.JobTree.{JobTree}
use Rattle.px_callgraph.specs.Calls.{Stage, choosing, matching, unfit}
use Rattle.px_callgraph.specs.declared.outcomes.StepOutcome.TheVariants.{Next, Ends, Cut, Past}
use Rattle.px_callgraph.specs.Alternatives.{Walk, Leads, ways, act, start}

-- ---- one way

-- both are the same way
abbrev pub same_way : Way → Way → Bool
same_way way.On way.On = true
same_way way.Then way.Then = true
same_way way.Else way.Else = true
same_way way.Null way.Null = true
same_way way.Made way.Made = true
same_way way.Written way.Written = true
same_way way.Unwritten way.Unwritten = true
same_way (way.Atom m) (way.Atom n) = nat_eq m n
same_way way.MissingLive way.MissingLive = true
same_way way.MissingFreed way.MissingFreed = true
same_way way.Missing way.Missing = true
same_way (way.Entry m) (way.Entry n) = nat_eq m n
same_way way.Drop way.Drop = true
same_way way.ByZero way.ByZero = true
same_way way.Divided way.Divided = true
same_way _ _ = false

-- the path goes on or ends; a step never leads to a drop or past the bound of a loop
abbrev pub still_there : Leads → Option Leads
still_there (Next w) = Some (Next w)
still_there (Ends s exit result) = Some (Ends s exit result)
still_there (Cut s gap) = None
still_there (Past s) = None

abbrev pub take_listed : JobTree → Walk → Way → Option Leads
take_listed j w name = elim (list_any (same_way name) (ways j w)) [ true ↦ still_there (act j w name) | false ↦ None ]

-- where the way leads that a choice names, if it is listed
abbrev pub take_way : JobTree → (Walk → Way) → Leads → Option Leads
take_way j name (Next w) = take_listed j w (name w)
take_way j name _ = None

-- ---- one step

-- the way of a rule without choices
abbrev pub alone : List ℕ → Way → Option Way
alone [] w = Some w
alone (c ∷ cs) w = None

-- the atom of a choice, where it is freed or live as the rule says
abbrev pub atom_way : ℕ → Bool → Option Atom → Option Way
atom_way n freed None = None
atom_way n true (Some a) = elim (is_freed a.state) [ true ↦ Some (way.Atom n) | false ↦ None ]
atom_way n false (Some a) = elim (is_freed a.state) [ true ↦ None | false ↦ Some (way.Atom n) ]

abbrev pub chosen_atom : Bool → List Atom → List ℕ → Option Way
chosen_atom freed atoms (n ∷ []) = atom_way n freed (slice_get atoms n)
chosen_atom freed atoms _ = None

-- of a load or a store, which has this rule
abbrev pub access_way : Rule → List Atom → Rule → List ℕ → Option Way
access_way r atoms rule.NullAccess cs = alone cs way.Null
access_way r atoms rule.FreedAccess cs = chosen_atom true atoms cs
access_way r atoms rule.MissingLive cs = alone cs way.MissingLive
access_way r atoms rule.MissingFreed cs = alone cs way.MissingFreed
access_way r atoms given cs = elim (same_rule r given) [ true ↦ chosen_atom false atoms cs | false ↦ None ]

-- the way of a command that a step takes, where the rule is the command's. `return` and the entry of a loop have no
-- rule, and a call is a step of several ways.
abbrev pub command_way : List Atom → CommandTree → Rule → List ℕ → Option Way
command_way atoms (assign to op a b) rule.Assign cs = alone cs way.On
command_way atoms (unset to) rule.Assign cs = alone cs way.On
command_way atoms (read slot site) rule.ReadWritten cs = alone cs way.Written
command_way atoms (read slot site) rule.ReadUnwritten cs = alone cs way.Unwritten
command_way atoms (test to how a b site) rule.TestTrue cs = alone cs way.Then
command_way atoms (test to how a b site) rule.TestFalse cs = alone cs way.Else
command_way atoms (choose slot first second) rule.Assign cs = alone cs way.On
command_way atoms leave rule.LeaveLoop cs = alone cs way.On
command_way atoms (load to at field block site) r cs = access_way rule.Load atoms r cs
command_way atoms (store at field block from site) r cs = access_way rule.Store atoms r cs
command_way atoms (malloc to block site) rule.Alloc cs = alone cs way.Made
command_way atoms (malloc to block site) rule.AllocNull cs = alone cs way.Null
command_way atoms (free at block site) rule.Free cs = chosen_atom false atoms cs
command_way atoms (free at block site) rule.FreeTwice cs = chosen_atom true atoms cs
command_way atoms (free at block site) rule.FreeNull cs = alone cs way.Null
command_way atoms (free at block site) rule.MissingLive cs = alone cs way.MissingLive
command_way atoms (free at block site) rule.MissingFreed cs = alone cs way.MissingFreed
command_way atoms (input to site) rule.Input cs = alone cs way.On
command_way atoms break rule.Assign cs = alone cs way.On
command_way atoms continue rule.Assign cs = alone cs way.On
command_way atoms (divide to a b site) rule.Divide cs = alone cs way.Divided
command_way atoms (divide to a b site) rule.DivideZero cs = alone cs way.ByZero
command_way atoms _ _ cs = None

-- At a place of a call a choice is the entry's number, or an atom's, or that of the atoms that there are: the block
-- wasn't met yet.
abbrev pub stage_way : ℕ → List Atom → Stage → Way
stage_way c atoms choosing = way.Entry c
stage_way c atoms (matching x σ rest used) = elim (nat_eq c (length atoms)) [ true ↦ way.Missing | false ↦ way.Atom c ]
stage_way c atoms unfit = way.Missing

abbrev pub choice_way : ℕ → Walk → Way
choice_way c w = elim w.call [ None ↦ way.On | Some going ↦ stage_way c w.state.atoms going.1 ]

abbrev pub then_take : (Leads → Option Leads) → Option Leads → Option Leads
then_take f None = None
then_take f (Some a) = f a

-- a call that was entered: its choices, and then what the entry says, which is listed where no block is still required
abbrev pub take_choices : JobTree → List ℕ → Leads → Option Leads
take_choices j [] a = take_way j (λ w. way.On) a
take_choices j (c ∷ cs) a = then_take (take_choices j cs) (take_way j (choice_way c) a)

-- where a step leads from what is to be done: none where it fails
abbrev pub item_step : JobTree → Walk → List Item → Rule → List ℕ → Option Leads
item_step j w [] r cs = None
item_step j w (Act (call to proc arguments site) ∷ k) rule.Call cs = then_take (take_choices j cs) (take_listed j w way.On)
item_step j w (Act c ∷ k) r cs = elim (command_way w.state.atoms c r cs) [ None ↦ None | Some name ↦ take_listed j w name ]
item_step j w (AfterHead l ∷ k) rule.Unroll cs = elim (alone cs way.On) [ None ↦ None | Some name ↦ take_listed j w name ]
item_step j w (AfterHead l ∷ k) _ cs = None
item_step j w (AfterBody l ∷ k) r cs = None
item_step j w (AfterStep l ∷ k) r cs = None

-- what takes no step of its own: `return`, the entry of a loop, the end of its body or step, and the end of the body
abbrev pub is_silent : List Item → Bool
is_silent [] = true
is_silent (Act (loop site head body step) ∷ k) = true
is_silent (Act (return from) ∷ k) = true
is_silent (Act c ∷ k) = false
is_silent (AfterHead l ∷ k) = false
is_silent (AfterBody l ∷ k) = true
is_silent (AfterStep l ∷ k) = true

-- ---- blocks that weren't met yet

-- the rule by which an item uses a live block or a freed one
abbrev pub live_rule : List Item → Rule
live_rule (Act (store at field block from site) ∷ k) = rule.Store
live_rule (Act (free at block site) ∷ k) = rule.Free
live_rule _ = rule.Load

abbrev pub freed_rule : List Item → Rule
freed_rule (Act (free at block site) ∷ k) = rule.FreeTwice
freed_rule _ = rule.FreedAccess

-- A block that wasn't met and the use of its atom are one act and two steps: the rule of the second step, where there
-- is one.
abbrev pub use_rule : List Item → Rule → Option Rule
use_rule k rule.MissingLive = Some (live_rule k)
use_rule k rule.MissingFreed = Some (freed_rule k)
use_rule k _ = None

-- the step uses the atom with this number, by this rule
abbrev pub uses_atom : Rule → ℕ → Step → Bool
uses_atom r n st = same_rule st.rule r && elim st.choices [ [] ↦ false | c ∷ cs ↦ nat_eq c n && elim cs [ [] ↦ true | _ ∷ _ ↦ false ] ]

-- ---- all steps

-- Where steps lead: the first that fails, by its place and its rule; or all before some step lead to an end of the
-- path, and that step is `End`, with the steps after it; or so many acts don't suffice to say it.
pub data Course : Type 0 where
  fails_at : ℕ → Rule → Course
  comes_to : ℕ → State → Exit → Option Content → List Step → Course
  unsaid : Course

-- the next step fails; where there is none, an `End` is missing
abbrev pub fails_next : ℕ → List Step → Course
fails_next i [] = fails_at i rule.End
fails_next i (st ∷ steps) = fails_at i st.rule

abbrev pub at_end : ℕ → State → Exit → Option Content → List Step → Course
at_end i s exit result [] = fails_at i rule.End
at_end i s exit result (st ∷ steps) = elim (same_rule st.rule rule.End) [
  | true ↦ elim st.choices [ [] ↦ comes_to i s exit result steps | _ ∷ _ ↦ fails_at i st.rule ]
  | false ↦ fails_at i st.rule
]

-- goes on where the step led
abbrev pub onward : Course → (Leads → Course) → Option Leads → Course
onward failed go None = failed
onward failed go (Some a) = go a

-- the step that uses a block which was met just now
abbrev pub by_use : (ℕ → List Step → Leads → Course) → ℕ → List Step → ℕ → Option Rule → Leads → Course
by_use go i steps n None a = go i steps a
by_use go i [] n (Some r) a = fails_at i rule.End
by_use go i (st ∷ steps) n (Some r) a = elim (uses_atom r n st) [ true ↦ go (suc i) steps a | false ↦ fails_at i st.rule ]

abbrev pub by_step : JobTree → (ℕ → List Step → Leads → Course) → ℕ → List Step → Walk → Course
by_step j go i [] w = fails_at i rule.End
by_step j go i (st ∷ steps) w =
    onward (fails_at i st.rule) (by_use go (suc i) steps (length w.state.atoms) (use_rule w.control st.rule)) (item_step j w w.control st.rule st.choices)

abbrev pub by_item : JobTree → (ℕ → List Step → Leads → Course) → ℕ → List Step → Walk → Bool → Course
by_item j go i steps w true = onward (fails_next i steps) (go i steps) (take_listed j w way.On)
by_item j go i steps w false = by_step j go i steps w

-- The course of steps from where a path stands; the next step has the place i, and at most n acts are looked at. What
-- takes no step of its own and fails makes the next step fail.
abbrev pub course : ℕ → JobTree → ℕ → List Step → Leads → Course
course zero j i steps a = unsaid
course (suc n) j i steps (Next w) = by_item j (course n j) i steps w (is_silent w.control)
course (suc n) j i steps (Ends s exit result) = at_end i s exit result steps
course (suc n) j i steps (Cut s gap) = fails_next i steps
course (suc n) j i steps (Past s) = fails_next i steps

-- the course from the start of the job's procedure, in some number of acts
abbrev pub RunsTo : JobTree → List Step → Course → Type 0
RunsTo j steps c = (n : ℕ) × (course n j 0 steps (Next (start j)) ≡ c)

-- ---- entries

-- An entry is the end of a path: its fields are those reached, and its values fit the variables and make the
-- constraint true.
pub record IsEndOf (j : JobTree) (s : State) (e : Exit) (r : Option Content) (x : Entry) : Type 0 where
  pub proc : x.proc ≡ j.proc
  pub trace : x.trace ≡ s.trace
  pub exit : x.exit ≡ e
  pub result : x.result ≡ r
  pub vars : x.vars ≡ s.vars
  pub pure : x.pure ≡ s.pure
  pub pre : x.pre ≡ s.pre
  pub post : x.post ≡ s.atoms
  pub satisfied : IsSatisfied x

-- The steps derive the entry: they lead to its end, and `End` is the last.
pub record Derives (j : JobTree) (x : Entry) (steps : List Step) : Type 0 where
  pub place : ℕ
  pub state : State
  pub exit : Exit
  pub result : Option Content
  pub runs : RunsTo j steps (comes_to place state exit result [])
  pub is_end : IsEndOf j state exit result x

-- the step at this place, with this rule, is the first that fails: on the way, as an `End` of another entry, or after
-- an `End`
abbrev pub FailsFirst : JobTree → Entry → List Step → ℕ → Rule → Type 0
FailsFirst j x steps i r =
    RunsTo j steps (fails_at i r)
    ⊎ ((s : State) × (exit : Exit) × (result : Option Content) × (rest : List Step) × RunsTo j steps (comes_to i s exit result rest) × (¬ IsEndOf j s exit result x) × (r ≡ rule.End))
    ⊎ ((n : ℕ) × (s : State) × (exit : Exit) × (result : Option Content) × (st : Step) × (rest : List Step)
    × RunsTo j steps (comes_to n s exit result (st ∷ rest)) × IsEndOf j s exit result x × (i ≡ suc n) × (r ≡ st.rule))
