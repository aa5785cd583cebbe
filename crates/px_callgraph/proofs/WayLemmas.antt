-- Each way on from a state keeps it, where no call is going on.
use Rattle.std.proofs.Common.{ℕ, suc, List, [], ◌∷◌, Bool, true, false, nat_lt, inr, Option, Some, None, refl}
use Rattle.px_base.specs.declared.trace.Site.{Site}
use Rattle.px_base.specs.declared.trace.MarkKind.TheVariants as mark
use Rattle.px_core.specs.CommandTree.{CommandTree, assign, unset, read, test, choose, loop, leave, load, store, malloc, free, input, call, return, break, continue, stop, divide}
use Rattle.px_core.specs.Control.{Item, Act, AfterHead, AfterBody, AfterStep, acts, one_turn_more}
use Rattle.px_entry.proofs.Lists.{Each, each_all}
use Rattle.px_callgraph.specs.declared.states.State.{State}
use Rattle.px_callgraph.specs.declared.states.Way.{Way}
use Rattle.px_callgraph.specs.JobTree.{JobTree}
use Rattle.px_callgraph.specs.States.{Done, past, on, marked}
use Rattle.px_callgraph.specs.Commands.{repeat_loop, iteration, command_ways, command_done}
use Rattle.px_callgraph.specs.declared.outcomes.StepOutcome.TheVariants.{Past}
use Rattle.px_callgraph.specs.Alternatives.{Leads, leads, at, items_after, after_command, item_ways, item_act, ways, act}
use Rattle.px_callgraph.specs.Laws.{IsSorted, IsKept, KeepsState, WaysKeepStates}
use Rattle.px_callgraph.proofs.KeepLemmas.{IsGood, leads_kept, command_keeps, each_weaker}

after_keeps : (s : State) (c : CommandTree) (k : List Item) (t : State) → IsKept s t → IsKept s (after_command s c k t).state
after_keeps s (call to proc arguments site) k t h = h
after_keeps s (assign to op a b) k t h = h
after_keeps s (unset to) k t h = h
after_keeps s (read slot site) k t h = h
after_keeps s (test to how a b site) k t h = h
after_keeps s (choose slot first second) k t h = h
after_keeps s (loop site head body step) k t h = h
after_keeps s leave k t h = h
after_keeps s (load to at' field block site) k t h = h
after_keeps s (store at' field block from site) k t h = h
after_keeps s (malloc to block site) k t h = h
after_keeps s (free at' block site) k t h = h
after_keeps s (input to site) k t h = h
after_keeps s (return from) k t h = h
after_keeps s break k t h = h
after_keeps s continue k t h = h
after_keeps s (stop word site) k t h = h
after_keeps s (divide to a b site) k t h = h

iteration_keeps : (s : State) → IsSorted s → (bound : ℕ) (site : Site) (made : ℕ) → IsGood s (iteration bound site made s)
iteration_keeps s h bound site made = by (nat_lt made bound)
  where
    by : (b : Bool) → IsGood s (elim b as (λ _. Done) [ true ↦ on (repeat_loop site (suc made) (marked mark.Iter site s)) | false ↦ record { state = s; terms = []; outcome = past } ])
    by true = inr (record { sorted = record { pure = h.pure; atoms = h.atoms }; slots = refl })
    by false = refl

pub item_keeps : (j : JobTree) (s : State) → IsSorted s → (k : List Item) → Each (λ name. KeepsState s (item_act j s k name)) (item_ways j s k)
item_keeps j s h [] = (record { sorted = h; slots = refl }, tt)
item_keeps j s h (AfterHead l ∷ k) =
    (leads_kept s (iteration j.limits.unroll l.site l.made s) (at (acts l.body (AfterBody (one_turn_more l) ∷ k))) (λ t q. q) (iteration_keeps s h j.limits.unroll l.site l.made), tt)
item_keeps j s h (AfterBody l ∷ k) = (record { sorted = h; slots = refl }, tt)
item_keeps j s h (AfterStep l ∷ k) = (record { sorted = h; slots = refl }, tt)
item_keeps j s h (Act c ∷ k) = by (items_after s c k)
  where
    by : (o : Option (List Item)) →
        Each (λ name. KeepsState s (elim o as (λ _. Leads) [ None ↦ Past s | Some k' ↦ leads s (command_done j c name s) (after_command s c k') ]))
        (elim o as (λ _. List Way) [ None ↦ [] | Some k' ↦ command_ways j s c ])
    by None = tt
    by (Some k') = each_weaker (λ w. IsGood s (command_done j c w s)) _ (λ w g. leads_kept s (command_done j c w s) (after_command s c k') (after_keeps s c k') g) (command_ways j s c) (command_keeps j s h c)

pub ways_keep : WaysKeepStates
unfolding ways act
ways_keep j s k h = each_all _ (item_ways j s k) (item_keeps j s h k)
