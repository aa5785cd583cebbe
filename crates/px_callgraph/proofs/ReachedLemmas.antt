-- What is reached from the start is well sorted.
use Rattle.std.proofs.Common.{◌≡◌, ℕ, zero, suc, ◌<◌, length, arith, List, [], ◌∷◌, true, false, Option, Some, None, refl, sym, subst}
use Rattle.std.proofs.lemmas.List.Elements.{All-contains}
use Rattle.px_core.specs.CommandTree.{CommandTree, assign, unset, read, test, choose, loop, leave, load, store, malloc, free, input, call, return, break, continue, stop, divide}
use Rattle.px_core.specs.Control.{Item, Act, AfterHead, AfterBody, AfterStep, acts, one_turn_more}
use Rattle.px_entry.specs.declared.tables.Cause.TheVariants.{Outside}
use Rattle.px_entry.specs.declared.tables.LongKind.{LongKind}
use Rattle.px_terms.specs.declared.variables.VarInfo.{VarInfo}
use Rattle.px_entry.specs.declared.atoms.Atom.{Atom}
use Rattle.px_entry.specs.Sorts.{is_pointer}
use Rattle.px_entry.proofs.Lists.{Each, each_all, each_from}
use Rattle.px_callgraph.specs.declared.states.State.{State}
use Rattle.px_callgraph.specs.declared.states.Way.{Way}
use Rattle.px_callgraph.specs.JobTree.{JobTree}
use Rattle.px_callgraph.specs.States.{Outcome, goes, ends, past, drops, Done}
use Rattle.px_callgraph.specs.Commands.{iteration, command_done}
use Rattle.px_callgraph.specs.Calls.{Calling, Stage}
use Rattle.px_callgraph.specs.declared.outcomes.StepOutcome.TheVariants.{Next, Ends, Past}
use Rattle.px_callgraph.specs.Alternatives.{Walk, Leads, passes, dropped, limited, within_limits, leads, items_after, after_command, item_ways, item_act, stage_ways, stage_act, ways, act}
use Rattle.px_callgraph.specs.Laws.{IsSorted, IsKept, KeepsState, HasPlaces, IsReached, at_start, by_way, ReachedKeepStates}
use Rattle.px_callgraph.proofs.KeepLemmas.{each_weaker}
use Rattle.px_callgraph.proofs.WayLemmas.{item_keeps}
use Rattle.px_callgraph.proofs.CallLemmas.{IsFitCall, GoesFit, KeepsBoth, closed_fit, stage_kept}

-- ---- commands

after_fit : (s : State) (c : CommandTree) (k : List Item) (t : State) → IsFitCall (after_command s c k t).call
after_fit s (call to proc arguments site) k t = tt
after_fit s (assign to op a b) k t = tt
after_fit s (unset to) k t = tt
after_fit s (read slot site) k t = tt
after_fit s (test to how a b site) k t = tt
after_fit s (choose slot first second) k t = tt
after_fit s (loop site head body step) k t = tt
after_fit s leave k t = tt
after_fit s (load to at' field block site) k t = tt
after_fit s (store at' field block from site) k t = tt
after_fit s (malloc to block site) k t = tt
after_fit s (free at' block site) k t = tt
after_fit s (input to site) k t = tt
after_fit s (return from) k t = tt
after_fit s break k t = tt
after_fit s continue k t = tt
after_fit s (stop word site) k t = tt
after_fit s (divide to a b site) k t = tt

command_fit : (s : State) (c : CommandTree) (k : List Item) (d : Done) → GoesFit (leads s d (after_command s c k))
command_fit s c k d = by d.outcome
  where
    limit : (a : Leads) → GoesFit a → (o : Option LongKind) → GoesFit (limited s a o)
    limit a h None = h
    limit a h (Some l) = tt

    by : (o : Outcome) → GoesFit (within_limits s d (after_command s c k) o)
    by goes = limit (Next (after_command s c k d.state)) (after_fit s c k d.state) (passes d)
    by (ends e r) = limit (Ends d.state e r) tt (passes d)
    by past = tt
    by (drops word) = limit (dropped s (Outside word)) tt (passes d)

item_fit : (j : JobTree) (s : State) (k : List Item) (w : Way) → GoesFit (item_act j s k w)
item_fit j s [] w = tt
item_fit j s (Act c ∷ k) w = by (items_after s c k)
  where
    by : (o : Option (List Item)) → GoesFit (elim o as (λ _. Leads) [ None ↦ Past s | Some k' ↦ leads s (command_done j c w s) (after_command s c k') ])
    by None = tt
    by (Some k') = command_fit s c k' (command_done j c w s)
item_fit j s (AfterHead l ∷ k) w = closed_fit s (iteration j.limits.unroll l.site l.made s) (acts l.body (AfterBody (one_turn_more l) ∷ k))
item_fit j s (AfterBody l ∷ k) w = tt
item_fit j s (AfterStep l ∷ k) w = tt

-- ---- walks

walk_kept : (j : JobTree) (w : Walk) → IsSorted w.state → IsFitCall w.call → Each (λ name. KeepsBoth w.state (act j w name)) (ways j w)
unfolding ways act
walk_kept j w h f = by w.call f
  where
    by : (o : Option (Calling × Stage)) → IsFitCall o →
        Each (λ name. KeepsBoth w.state (elim o as (λ _. Leads) [ None ↦ item_act j w.state w.control name | Some c ↦ stage_act j w.state c.0 w.control c.1 name ]))
        (elim o as (λ _. List Way) [ None ↦ item_ways j w.state w.control | Some c ↦ stage_ways j w.state c.0 c.1 ])
    by None g = each_weaker (λ name. KeepsState w.state (item_act j w.state w.control name)) _ (λ name k. (k, item_fit j w.state w.control name)) (item_ways j w.state w.control) (item_keeps j w.state h w.control)
    by (Some c) g = stage_kept j w.state h c.0 w.control c.1 g

-- ---- what is reached

abbrev IsFitWalk : Walk → Type 0
IsFitWalk w = IsSorted w.state × IsFitCall w.call

fit_next : (s : State) (a : Leads) (w : Walk) → a ≡ Next w → KeepsBoth s a → IsFitWalk w
fit_next s a w e h = (let k : IsKept s w.state = subst (λ z. KeepsState s z) e h.0 in k.sorted, subst GoesFit e h.1)

reached_fit : (j : JobTree) (w : Walk) → IsReached j w → IsFitWalk w
reached_fit j w (at_start e) = subst IsFitWalk (sym e) (record { pure = refl; atoms = refl }, tt)
reached_fit j w (by_way {v} name r i e) =
    let f = reached_fit j v r in
    fit_next v.state (act j v name) w e (All-contains (λ name. KeepsBoth v.state (act j v name)) (ways j v) name (each_all _ (ways j v) (walk_kept j v f.0 f.1)) i)

pub reached_keep : ReachedKeepStates
reached_keep j w r =
    let f = reached_fit j w r in
    (f.0, each_all _ (ways j w) (each_weaker (λ name. KeepsBoth w.state (act j w name)) _ (λ name h. h.0) (ways j w) (walk_kept j w f.0 f.1)))

-- ---- places

pointer_below : (vars : List VarInfo) (x : ℕ) → is_pointer vars x ≡ true → x < length vars
pointer_below [] x e = absurd (never_true e)
  where
    never_true : false ≡ true → ⊥
    never_true e = cc
pointer_below (i ∷ vars) zero e = omega arith
pointer_below (i ∷ vars) (suc x) e = let h = pointer_below vars x e in omega (arith, h)

-- the places of a well-sorted state are variables of its list
pub sorted_places : (s : State) → IsSorted s → HasPlaces s
sorted_places s h = each_all _ s.atoms (each_from (λ (a : Atom). is_pointer s.vars a.place.0) _ (λ a e. pointer_below s.vars a.place.0 e) s.atoms h.atoms)
