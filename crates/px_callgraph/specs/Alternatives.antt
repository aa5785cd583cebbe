-- Where a symbolic state leads: what is listed, by name, where each name leads, and the limits of a path.
use Rattle.std.specs.Prelude.{ℕ, zero, suc, ◌+◌, max, Bool, true, false, nat_lt, List, [], ◌∷◌, length, map, flat_map, fold, Option, Some, None, option_map}
use Rattle.std.specs.List.{list_any}
use Rattle.px_base.specs.Bounds.{most_marks, most_steps, most_conjuncts, most_atoms, most_variables}
use Rattle.px_base.specs.declared.trace.Site.{Site}
use Rattle.px_base.specs.declared.trace.ProcId.{ProcId}
use Rattle.px_terms.specs.declared.types.ValueType.{ValueType}
use Rattle.px_terms.specs.declared.conjuncts.Place.TheVariants as place
use Rattle.px_terms.specs.declared.conjuncts.Content.{Content}
use Rattle.px_terms.specs.declared.conjuncts.Content.TheVariants.{Unwritten}
use Rattle.px_core.specs.CommandTree.{CommandTree, CommandTrees, choose, loop, leave, call, break, continue}
use Rattle.px_core.specs.Control.{Item, Act, AfterHead, AfterBody, AfterStep, acts, no_turns, one_turn_more, leave_to, break_to, continue_to}
use Rattle.px_entry.specs.declared.entries.Entry.{Entry}
use Rattle.px_entry.specs.declared.entries.Exit.TheVariants.{Ok}
use Rattle.px_entry.specs.declared.tables.Cause.{Cause}
use Rattle.px_entry.specs.declared.tables.Cause.TheVariants.{Long, Outside}
use Rattle.px_entry.specs.declared.tables.LongKind.{LongKind}
use Rattle.px_entry.specs.declared.tables.LongKind.TheVariants as long
use Rattle.px_entry.specs.Sorts.{is_long}
use Rattle.px_callgraph.specs.declared.jobs.Callee.{Callee}
use Rattle.px_callgraph.specs.declared.jobs.Callee.TheVariants as callee
use Rattle.px_callgraph.specs.declared.states.State.{State}
use Rattle.px_callgraph.specs.declared.states.Way.{Way}
use Rattle.px_callgraph.specs.declared.states.Way.TheVariants as way
use Rattle.px_callgraph.specs.declared.states.Alternative.{Alternative}
use Rattle.px_callgraph.specs.declared.states.Alternative.TheVariants as alternative
use Rattle.px_callgraph.specs.declared.outcomes.StepOutcome.{StepOutcome}
use Rattle.px_callgraph.specs.declared.outcomes.StepOutcome.TheVariants.{Next, Ends, Cut, Past}
use Rattle.px_callgraph.specs.JobTree.{JobTree, callee_in}
use Rattle.px_callgraph.specs.States.{Outcome, goes, ends, past, drops, Done, on, content_at, start_of}
use Rattle.px_callgraph.specs.Accesses.{listed_if}
use Rattle.px_callgraph.specs.Commands.{command_ways, command_done, outcome_of, iteration, last_loop, argument_contents}
use Rattle.px_callgraph.specs.Calls.{Calling, Stage, choosing, matching, unfit, callee_ways, drop_cause, entry_in, choose_entry, required_ways, Taken, take_case, is_possible, stand_all, finish_call}
use Rattle.px_callgraph.specs.Renaming.{place_through}

-- ---- limits

abbrev pub first_true : List (Bool × LongKind) → Option LongKind
first_true [] = None
first_true (t ∷ rest) = elim t.0 [ true ↦ Some t.1 | false ↦ first_true rest ]

-- the limits of a path in order, and whether an act passes them
abbrev pub limits_of : Done → List (Bool × LongKind)
limits_of d =
    (nat_lt most_marks (length d.state.trace), long.Trace)
    ∷ (nat_lt most_steps d.state.steps, long.Steps)
    ∷ (nat_lt most_conjuncts (length d.state.pure), long.Conjuncts)
    ∷ (nat_lt most_atoms (length d.state.atoms), long.Atoms)
    ∷ (nat_lt most_variables (length d.state.vars), long.Variables)
    ∷ (list_any is_long d.terms, long.Term) ∷ []

-- the first that it passes
abbrev pub passes : Done → Option LongKind
passes d = first_true (limits_of d)

-- ---- paths

-- what is known, the call that is going on, if one is, and what is still to be done of the body
pub record Walk : Type 0 where
  pub state : State
  pub call : Option (Calling × Stage)
  pub control : List Item

-- where an act leads: the path goes on; it ends, with a result; it is dropped; or it ends beyond the bound. A
-- drop has the state before the act.
abbrev pub Leads : Type 0
Leads = StepOutcome Walk

abbrev pub dropped : {A : Type 0} → State → Cause → StepOutcome A
dropped s why = Cut s (record { trace = s.trace; cause = why })

-- ---- limits of a path: an act that passes a limit is a drop at the state before it

abbrev pub led : {A : Type 0} → State → Done → (State → A) → Outcome → StepOutcome A
led s d go goes = Next (go d.state)
led s d go (ends exit result) = Ends d.state exit result
led s d go past = Past d.state
led s d go (drops word) = dropped s (Outside word)

abbrev pub limited : {A : Type 0} → State → StepOutcome A → Option LongKind → StepOutcome A
limited s a None = a
limited s a (Some kind) = dropped s (Long kind)

-- past the bound no limit is looked at
abbrev pub within_limits : {A : Type 0} → State → Done → (State → A) → Outcome → StepOutcome A
within_limits s d go goes = limited s (led s d go goes) (passes d)
within_limits s d go (ends exit result) = limited s (led s d go (ends exit result)) (passes d)
within_limits s d go past = led s d go past
within_limits s d go (drops word) = limited s (led s d go (drops word)) (passes d)

-- from the state before an act, with what is made of the state after it where the path goes on
abbrev pub leads : {A : Type 0} → State → Done → (State → A) → StepOutcome A
leads s d go = within_limits s d go d.outcome

abbrev pub at : List Item → State → Walk
at k s = record { state = s; call = None; control = k }

-- ---- items of control

abbrev pub chosen : Bool → CommandTrees → CommandTrees → CommandTrees
chosen true first second = first
chosen false first second = second

-- what is to be done after a command; nothing where Leave, Break or Continue stand in no such loop
abbrev pub items_after : State → CommandTree → List Item → Option (List Item)
items_after s (choose slot first second) k = option_map (λ b. acts (chosen b first second) k) (outcome_of (content_at s.slots slot))
items_after s (loop site head body step) k = Some (acts head (AfterHead (no_turns site head body step) ∷ k))
items_after s leave k = option_map (λ place. place.1) (leave_to k)
items_after s break k = break_to k
items_after s continue k = continue_to k
items_after s _ k = Some k

abbrev pub item_ways : JobTree → State → List Item → List Way
item_ways j s [] = way.On ∷ []
item_ways j s (Act c ∷ k) = elim (items_after s c k) [ None ↦ [] | Some k' ↦ command_ways j s c ]
item_ways j s (AfterHead l ∷ k) = way.On ∷ []
item_ways j s (AfterBody l ∷ k) = way.On ∷ []
item_ways j s (AfterStep l ∷ k) = way.On ∷ []

-- a call is entered, and any other command is done
abbrev pub after_command : State → CommandTree → List Item → State → Walk
after_command s (call to proc arguments site) k t = record {
  state = t;
  call = Some (record { to = to; proc = proc; arguments = argument_contents s arguments; site = site }, choosing);
  control = k;
}
after_command s _ k t = at k t

-- the result of a body that falls off its end
abbrev pub fallen : Option ValueType → Option Content
fallen None = None
fallen (Some t) = Some Unwritten

abbrev pub item_act : JobTree → State → List Item → Way → Leads
item_act j s [] w = Ends s Ok (fallen j.body.result)
item_act j s (Act c ∷ k) w = elim (items_after s c k) [ None ↦ Past s | Some k' ↦ leads s (command_done j c w s) (after_command s c k') ]
item_act j s (AfterHead l ∷ k) w = leads s (iteration j.limits.unroll l.site l.made s) (at (acts l.body (AfterBody (one_turn_more l) ∷ k)))
item_act j s (AfterBody l ∷ k) w = Next (at (acts l.step (AfterStep l ∷ k)) s)
item_act j s (AfterStep l ∷ k) w = Next (at (acts l.head (AfterHead l ∷ k)) s)

-- ---- calls that are going on

abbrev pub stage_ways : JobTree → State → Calling → Stage → List Way
stage_ways j s c choosing = callee_ways (callee_in j.callees c.proc)
stage_ways j s c (matching x σ [] used) = listed_if (is_possible x (stand_all x σ s) s) way.On
stage_ways j s c (matching x σ (p ∷ rest) used) = required_ways s σ used p
stage_ways j s c unfit = []

abbrev pub going_on : Calling → List Item → State → Stage → Walk
going_on c k s stage = record { state = s; call = Some (c, stage); control = k }

abbrev pub choosing_act : JobTree → State → Calling → List Item → Way → Leads
choosing_act j s c k (way.Entry n) = Next (going_on c k s (choose_entry j.types s c.arguments (entry_in (callee_in j.callees c.proc) n)))
choosing_act j s c k _ = dropped s (drop_cause c.proc (callee_in j.callees c.proc))

abbrev pub taking : State → Calling → List Item → Taken → Leads
taking s c k t = leads s (on t.state) (λ u. going_on c k u t.stage)

abbrev pub stage_act : JobTree → State → Calling → List Item → Stage → Way → Leads
stage_act j s c k choosing w = choosing_act j s c k w
stage_act j s c k (matching x σ [] used) w = leads s (finish_call c x σ used s) (at k)
stage_act j s c k (matching x σ (p ∷ rest) used) w = taking s c k (take_case j.types x σ rest used p w (place_through σ (place.Var p.place)) s)
stage_act j s c k unfit w = Past s

-- ---- names and acts

-- the ways on from a place of a path, by name, in order
unfoldable pub ways : JobTree → Walk → List Way
ways j w = elim w.call [ None ↦ item_ways j w.state w.control | Some c ↦ stage_ways j w.state c.0 c.1 ]

-- where a way leads
unfoldable pub act : JobTree → Walk → Way → Leads
act j w name = elim w.call [ None ↦ item_act j w.state w.control name | Some c ↦ stage_act j w.state c.0 w.control c.1 name ]

abbrev pub start : JobTree → Walk
start j = at (acts j.body.commands []) (start_of j.body)

-- ---- the alternatives of one command

abbrev pub alternative_of : StepOutcome State → Alternative
alternative_of (Next s) = alternative.Next s
alternative_of (Ends s exit result) = alternative.Ends s exit result
alternative_of (Cut s gap) = alternative.Cut gap
alternative_of (Past s) = alternative.Beyond

-- of an act, from the state before it
abbrev pub alternative_by : State → Done → Alternative
alternative_by s d = alternative_of (leads s d (λ t. t))

-- where a call leads, once it is over: n acts may be left
abbrev pub to_the_end : ℕ → JobTree → Leads → List Alternative
to_the_end zero j a = []
to_the_end (suc n) j (Next w) = elim w.call [
  | None ↦ alternative.Next w.state ∷ []
  | Some c ↦ flat_map (λ name. to_the_end n j (act j w name)) (ways j w)
]
to_the_end (suc n) j (Ends s exit result) = alternative.Ends s exit result ∷ []
to_the_end (suc n) j (Cut s gap) = alternative.Cut gap ∷ []
to_the_end (suc n) j (Past s) = alternative.Beyond ∷ []

abbrev pub longest_pre : Callee → ℕ
longest_pre (callee.Table t) = fold (λ n (x : Entry). max n (length x.pre)) 0 t.entries
longest_pre callee.Cycle = 0
longest_pre callee.LeftOut = 0
longest_pre callee.Unknown = 0

-- an entry, a case for each atom that it requires, what follows them, and where that leads
abbrev pub call_acts : JobTree → ProcId → ℕ
call_acts j f = 3 + longest_pre (callee_in j.callees f)

-- at the end of the head of the innermost loop
abbrev pub loop_alternatives : JobTree → State → Option (Site × ℕ) → List Alternative
loop_alternatives j s None = []
loop_alternatives j s (Some l) = alternative_by s (iteration j.limits.unroll l.0 l.1 s) ∷ []

abbrev pub command_alternatives : JobTree → State → CommandTree → List Alternative
command_alternatives j s c = map (λ w. alternative_by s (command_done j c w s)) (command_ways j s c)

-- The alternatives of a command on a state, in order. Of a loop they are those at the end of its head, of a
-- call those after each entry and all cases.
unfoldable pub alternatives : JobTree → State → CommandTree → List Alternative
alternatives j s (loop site head body step) = loop_alternatives j s (last_loop s.loops)
alternatives j s (call to proc arguments site) =
    flat_map (λ w. to_the_end (call_acts j proc) j (leads s (command_done j (call to proc arguments site) w s) (after_command s (call to proc arguments site) []))) (command_ways j s (call to proc arguments site))
alternatives j s c = command_alternatives j s c
