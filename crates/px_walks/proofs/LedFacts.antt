-- Where a step leads: on with what is after the command.
use Rattle.std.proofs.Common.{◌≡◌, ℕ, suc, ◌+◌, ◌<◌, ◌≤◌, nat_lt, Bool, true, false, List, [], ◌∷◌, Option, Some, None, option_map, refl, sym, ◌∙◌, ap, arith, rules}
use Rattle.std.proofs.lemmas.Bool.{false≢true}
use Rattle.px_base.specs.declared.trace.MarkKind.TheVariants as mark
use Rattle.px_core.specs.CommandTree.{CommandTree}
use Rattle.px_core.specs.Control.{Turns, Item, Act, AfterHead, AfterBody, acts, one_turn_more}
use Rattle.px_callgraph.specs.declared.states.State.{State}
use Rattle.px_callgraph.specs.declared.states.Way.{Way}
use Rattle.px_callgraph.specs.declared.states.Way.TheVariants as way
use Rattle.px_callgraph.specs.JobTree.{JobTree}
use Rattle.px_callgraph.specs.States.{Done, on, marked, past}
use Rattle.px_callgraph.specs.Commands.{command_done, repeat_loop, iteration}
use Rattle.px_callgraph.specs.Calls.{Calling, Stage}
use Rattle.px_callgraph.specs.declared.outcomes.StepOutcome.{StepOutcome}
use Rattle.px_callgraph.specs.Outcomes.{map_next}
use Rattle.px_callgraph.specs.declared.outcomes.StepOutcome.TheVariants.{Next, Ends, Cut, Past}
use Rattle.px_callgraph.specs.Alternatives.{Walk, Leads, leads, at, items_after, after_command, item_act, stage_act, act}
use Rattle.px_calls.specs.declared.call.Call.{Call}
use Rattle.px_steps.specs.declared.led.Led.{Led}
use Rattle.px_steps.specs.declared.led.Led.TheVariants as led_so
use Rattle.px_steps.specs.Led.{led_of, at_state}
use Rattle.px_steps.proofs.LedLemmas.{leads_through}
use Rattle.px_steps.proofs.LoopLemmas.{turn_is}
use Rattle.px_walks.specs.Nexts.{IsAfter}
use Rattle.px_calls.specs.Calls.{call_of, with_call}
use Rattle.px_walks.specs.Walks.{at_walk}

-- what was gone to after a command
gone : (o : Option (List Item)) (k : List Item) (is : Bool) → is ≡ true → IsAfter is o k → o ≡ Some k
gone o k true e h = h
gone o k false e h = absurd (false≢true e)

pub not_gone : (o : Option (List Item)) (k : List Item) (is : Bool) → is ≡ false → IsAfter is o k → o ≡ None
not_gone o k true e h = absurd (false≢true (sym e))
not_gone o k false e h = h

through_alike : (f g : State → Walk) (a : StepOutcome State) → ((t : State) → f t ≡ g t) → map_next f a ≡ map_next g a
through_alike f g (Next t) h = ap Next (h t)
through_alike f g (Ends t exit result) h = refl
through_alike f g (Cut t gap) h = refl
through_alike f g (Past t) h = refl

abbrev led_on : JobTree → State → CommandTree → Way → Option (List Item) → Leads
led_on j s c w o = elim o as (λ _. Leads) [ None ↦ Past s | Some k' ↦ leads s (command_done j c w s) (after_command s c k') ]

walked : (led : Led) (call : Option Call) (k : List Item) (t : State) → at_walk (Some led) (with_call call k t) ≡ map_next (with_call call k) (at_state led t)
walked led_so.Goes call k t = refl
walked (led_so.Ends exit result) call k t = refl
walked (led_so.Cut gap) call k t = refl

pub goes_on : (j : JobTree) (s t : State) (c : CommandTree) (w : Way) (k k' : List Item) (is : Bool) (call : Option Call) (led : Led) → is ≡ true → IsAfter is (items_after s c k) k' →
    ((k : List Item) (t : State) → after_command s c k t ≡ with_call call k t) → at_state led t ≡ led_of s (command_done j c w s) → at_walk (Some led) (with_call call k' t) ≡ item_act j s (Act c ∷ k) w
goes_on j s t c w k k' is call led e h entered led_is =
    walked led call k' t
    ∙ sym (through_alike (after_command s c k') (with_call call k') (at_state led t) (entered k'))
    ∙ ap (map_next (after_command s c k')) led_is
    ∙ sym (leads_through s (command_done j c w s) (after_command s c k'))
    ∙ sym (ap (led_on j s c w) (gone (items_after s c k) k' is e h))

abbrev by_call : JobTree → List Item → State → Way → Option (Calling × Stage) → Leads
by_call j k s w o = elim o as (λ _. Leads) [ None ↦ item_act j s k w | Some c ↦ stage_act j s c.0 k c.1 w ]

-- an act that leaves a state in its place leads there, with what is after it
pub leads_on : (s t : State) (d : Done) (k : List Item) (led : Led) → at_state led t ≡ led_of s d → at_walk (Some led) (at k t) ≡ leads s d (at k)
leads_on s t d k led e = walked led None k t ∙ ap (map_next (at k)) e ∙ sym (leads_through s d (at k))

-- one turn more
pub turned : (j : JobTree) (s t : State) (l : Turns) (k k' : List Item) (bound made : ℕ) (led : Led) → bound ≡ j.limits.unroll → l.made < bound → made ≡ l.made + 1 →
    k' ≡ acts l.body (AfterBody (record l { made = made }) ∷ k) → at_state led t ≡ led_of s (on (repeat_loop l.site made (marked mark.Iter l.site s))) →
    at_walk (Some led) (at k' t) ≡ item_act j s (AfterHead l ∷ k) way.On
turned j s t l k k' bound made led b f m e h =
    let n : made ≡ suc l.made = omega (arith, m) in
    leads_on s t (on (repeat_loop l.site made (marked mark.Iter l.site s))) k' led h
    ∙ ap (λ z. leads s (on (repeat_loop l.site z (marked mark.Iter l.site s))) (at k')) m
    ∙ ap (λ d. leads s d (at k')) (turn_is bound l.made l.site s f)
    ∙ ap (λ z. leads s (iteration z l.site l.made s) (at k')) b
    ∙ ap (λ z. leads s (iteration j.limits.unroll l.site l.made s) (at z)) (e ∙ ap (λ z. acts l.body (AfterBody (record l { made = z }) ∷ k)) n)

-- past the bound nothing is done
pub past_bound : (j : JobTree) (s : State) (l : Turns) (k : List Item) (bound : ℕ) → bound ≡ j.limits.unroll → bound ≤ l.made → Past s ≡ item_act j s (AfterHead l ∷ k) way.On
past_bound j s l k bound b f =
    let n : nat_lt l.made bound ≡ false = search (rules, f) in
    sym
    (ap (λ c. leads s (elim c as (λ _. Done) [ true ↦ on (repeat_loop l.site (suc l.made) (marked mark.Iter l.site s)) | false ↦ record { state = s; terms = []; outcome = past } ]) (at (acts l.body (AfterBody (one_turn_more l) ∷ k))))
    (ap (nat_lt l.made) (sym b) ∙ n))

-- ---- by whether a call is going on

pub no_call : (j : JobTree) (o : Option Call) (k : List Item) (s : State) (w : Way) (to : Leads) → o ≡ None → to ≡ item_act j s k w → to ≡ act j (with_call o k s) w
unfolding act
no_call j o k s w to e h = h ∙ ap (by_call j k s w) (sym (ap (option_map call_of) e))

pub some_call : (j : JobTree) (o : Option Call) (c : Call) (k : List Item) (s : State) (w : Way) (to : Leads) → o ≡ Some c → to ≡ stage_act j s (call_of c).0 k (call_of c).1 w → to ≡ act j (with_call o k s) w
unfolding act
some_call j o c k s w to e h = h ∙ ap (by_call j k s w) (sym (ap (option_map call_of) e))
