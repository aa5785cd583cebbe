-- After each turn no call is going on: a step of a call enters it, and goes on until it is over.
use Rattle.std.proofs.Common.{◌≡◌, ℕ, List, [], ◌∷◌, map, Bool, true, false, ◌||◌, Option, Some, None, refl, sym, ◌∙◌, ap, subst}
use Rattle.std.specs.Prelude.{⊤, nat_eq, length}
use Rattle.std.specs.List.{list_any}
use Rattle.std.proofs.lemmas.Bool.{both_ways}
use Rattle.px_core.specs.CommandTree.{CommandTree, assign, unset, read, test, choose, loop, leave, load, store, malloc, free, input, call, return, break, continue, stop, divide}
use Rattle.px_core.specs.Control.{Item, Act, AfterHead, AfterBody, AfterStep, acts, one_turn_more}
use Rattle.px_terms.specs.declared.conjuncts.Content.{Content}
use Rattle.px_entry.specs.declared.atoms.Atom.{Atom}
use Rattle.px_entry.specs.declared.atoms.Case.{Case}
use Rattle.px_entry.specs.declared.atoms.Case.TheVariants as case
use Rattle.px_entry.specs.declared.entries.Entry.{Entry}
use Rattle.px_entry.specs.declared.entries.Exit.{Exit}
use Rattle.px_entry.specs.declared.tables.Cause.TheVariants.{Outside}
use Rattle.px_entry.specs.declared.tables.Gap.{Gap}
use Rattle.px_entry.specs.declared.tables.LongKind.{LongKind}
use Rattle.px_terms.specs.declared.conjuncts.Place.TheVariants as place
use Rattle.px_callgraph.specs.declared.states.State.{State}
use Rattle.px_callgraph.specs.declared.states.Way.{Way}
use Rattle.px_callgraph.specs.declared.states.Way.TheVariants as way
use Rattle.px_callgraph.specs.JobTree.{JobTree}
use Rattle.px_callgraph.specs.States.{Outcome, goes, ends, past, drops, Done, on}
use Rattle.px_callgraph.specs.Accesses.{listed_if}
use Rattle.px_callgraph.specs.Commands.{command_done, iteration}
use Rattle.px_callgraph.specs.Renaming.{Substitution, place_through}
use Rattle.px_callgraph.specs.Calls.{Calling, Stage, choosing, matching, unfit, case_way, cases_at, take_case, is_possible, stand_all, finish_call}
use Rattle.px_callgraph.specs.declared.outcomes.StepOutcome.TheVariants.{Next, Ends, Cut, Past}
use Rattle.px_callgraph.specs.Alternatives.{Walk, Leads, dropped, limited, passes, within_limits, leads, at, items_after, after_command, item_act, going_on, stage_ways, stage_act, ways, act}
use Rattle.px_callgraph.specs.Derivations.{same_way, still_there, take_listed, stage_way}
use Rattle.px_check.specs.Steps.{is_call}
use Rattle.px_check.specs.Follows.{IsFree}
use Rattle.px_check.proofs.TakeLemmas.{taken}

-- a call is going on, where the path goes on
abbrev pub IsCalling : Leads → Type 0
IsCalling (Next w) = (c : Calling × Stage) × (w.call ≡ Some c)
IsCalling (Ends s exit result) = ⊤
IsCalling (Cut s gap) = ⊤
IsCalling (Past s) = ⊤

-- what is true of the four ways in which an act may end
pub each_end : (P : Leads → Type 0) (s : State) (d : Done) (go : State → Walk) → P (Next (go d.state)) → ((e : Exit) (r : Option Content) → P (Ends d.state e r)) → ((gap : Gap) → P (Cut s gap)) → P (Past d.state) → P (leads s d go)
each_end P s d go next ended cut beyond = by d.outcome
  where
    limit : (a : Leads) → P a → (o : Option LongKind) → P (limited s a o)
    limit a h None = h
    limit a h (Some l) = cut _

    by : (o : Outcome) → P (within_limits s d go o)
    by goes = limit (Next (go d.state)) next (passes d)
    by (ends e r) = limit (Ends d.state e r) (ended e r) (passes d)
    by past = beyond
    by (drops word) = limit (dropped s (Outside word)) (cut _) (passes d)

leads_free : (s : State) (d : Done) (k : List Item) → IsFree (leads s d (at k))
leads_free s d k = each_end IsFree s d (at k) refl (λ e r. tt) (λ gap. tt) tt

-- ---- what comes next is no call

command_free : (s : State) (d : Done) (c : CommandTree) (k k' : List Item) → is_call (Act c ∷ k) ≡ false → IsFree (leads s d (after_command s c k'))
command_free s d (call to proc arguments site) k k' e = cc
command_free s d (assign to op a b) k k' e = leads_free s d k'
command_free s d (unset to) k k' e = leads_free s d k'
command_free s d (read slot site) k k' e = leads_free s d k'
command_free s d (test to how a b site) k k' e = leads_free s d k'
command_free s d (choose slot first second) k k' e = leads_free s d k'
command_free s d (loop site head body step) k k' e = leads_free s d k'
command_free s d leave k k' e = leads_free s d k'
command_free s d (load to at' field block site) k k' e = leads_free s d k'
command_free s d (store at' field block from site) k k' e = leads_free s d k'
command_free s d (malloc to block site) k k' e = leads_free s d k'
command_free s d (free at' block site) k k' e = leads_free s d k'
command_free s d (input to site) k k' e = leads_free s d k'
command_free s d (return from) k k' e = leads_free s d k'
command_free s d break k k' e = leads_free s d k'
command_free s d continue k k' e = leads_free s d k'
command_free s d (stop word site) k k' e = leads_free s d k'
command_free s d (divide to a b site) k k' e = leads_free s d k'

item_free : (j : JobTree) (s : State) (k : List Item) (w : Way) → is_call k ≡ false → IsFree (item_act j s k w)
item_free j s [] w e = tt
item_free j s (Act c ∷ k) w e = by (items_after s c k)
  where
    by : (o : Option (List Item)) → IsFree (elim o as (λ _. Leads) [ None ↦ Past s | Some k' ↦ leads s (command_done j c w s) (after_command s c k') ])
    by None = tt
    by (Some k') = command_free s (command_done j c w s) c k k' e
item_free j s (AfterHead l ∷ k) w e = leads_free s (iteration j.limits.unroll l.site l.made s) (acts l.body (AfterBody (one_turn_more l) ∷ k))
item_free j s (AfterBody l ∷ k) w e = refl
item_free j s (AfterStep l ∷ k) w e = refl

act_free : (j : JobTree) (s : State) (k : List Item) (w : Way) → is_call k ≡ false → IsFree (act j (at k s) w)
unfolding act
act_free j s k w e = item_free j s k w e

-- where a way of such an item leads
pub way_frees : (j : JobTree) (s : State) (k : List Item) (name : Way) (a : Leads) → is_call k ≡ false → take_listed j (at k s) name ≡ Some a → IsFree a
way_frees j s k name a e t = subst IsFree (taken j (at k s) name a t).leads (act_free j s k name e)

-- ---- a call is entered

enters : (j : JobTree) (s : State) (k : List Item) (w : Way) → is_call k ≡ true → IsCalling (item_act j s k w)
enters j s (Act (call to proc arguments site) ∷ k) w e =
    each_end IsCalling s (command_done j (call to proc arguments site) w s) (after_command s (call to proc arguments site) k) (_, refl) (λ e r. tt) (λ gap. tt) tt
enters j s _ w e = cc

act_enters : (j : JobTree) (s : State) (k : List Item) (w : Way) → is_call k ≡ true → IsCalling (act j (at k s) w)
unfolding act
act_enters j s k w e = enters j s k w e

pub call_enters : (j : JobTree) (s : State) (k : List Item) (name : Way) (a : Leads) → is_call k ≡ true → take_listed j (at k s) name ≡ Some a → IsCalling a
call_enters j s k name a e t = subst IsCalling (taken j (at k s) name a t).leads (act_enters j s k name e)

-- ---- a call goes on

-- a way that is taken is listed
pub taken_listed : (j : JobTree) (w : Walk) (name : Way) (a : Leads) → take_listed j w name ≡ Some a → list_any (same_way name) (ways j w) ≡ true
taken_listed j w name a e = by (list_any (same_way name) (ways j w)) e
  where
    by : (b : Bool) → elim b as (λ _. Option Leads) [ true ↦ still_there (act j w name) | false ↦ None ] ≡ Some a → b ≡ true
    by true e = refl
    by false e = cc

cases_not_on : (cs : List Case) → list_any (same_way way.On) (map case_way cs) ≡ false
cases_not_on [] = refl
cases_not_on (case.Atom n ∷ cs) = cases_not_on cs
cases_not_on (case.Missing ∷ cs) = cases_not_on cs

choice_not_on : (n : ℕ) (atoms : List Atom) (x : Entry) (σ : Substitution) (rest : List Atom) (used : List ℕ) → same_way (stage_way n atoms (matching x σ rest used)) way.On ≡ false
choice_not_on n atoms x σ rest used = by (nat_eq n (length atoms))
  where
    by : (b : Bool) → same_way (elim b as (λ _. Way) [ true ↦ way.Missing | false ↦ way.Atom n ]) way.On ≡ false
    by true = refl
    by false = refl

only_on : (name : Way) (b : Bool) → same_way name way.On ≡ false → list_any (same_way name) (listed_if b way.On) ≡ true → ⊥
only_on name true e l = let n : false ≡ true = sym e ∙ sym (or_false (same_way name way.On)) ∙ l in cc
  where
    or_false : (b : Bool) → (b || false) ≡ b
    or_false true = refl
    or_false false = refl
only_on name false e l = cc

module _ (j : JobTree) (s : State) (c : Calling) (k : List Item) where
  -- what a choice leads to is a place of the call
  choice_stays : (n : ℕ) (stage : Stage) → list_any (same_way (stage_way n s.atoms stage)) (stage_ways j s c stage) ≡ true → IsCalling (stage_act j s c k stage (stage_way n s.atoms stage))
  choice_stays n choosing l = (_, refl)
  choice_stays n (matching x σ [] used) l =
      absurd (only_on (stage_way n s.atoms (matching x σ [] used)) (is_possible x (stand_all x σ s) s) (choice_not_on n s.atoms x σ [] used) l)
  choice_stays n (matching x σ (p ∷ rest) used) l =
      let w = stage_way n s.atoms (matching x σ (p ∷ rest) used) in
      let t = take_case j.types x σ rest used p w (place_through σ (place.Var p.place)) s in
      each_end IsCalling s (on t.state) (λ u. going_on c k u t.stage) (_, refl) (λ e r. tt) (λ gap. tt) tt
  choice_stays n unfit l = tt

  -- and what the entry says is its end
  last_frees : (stage : Stage) → list_any (same_way way.On) (stage_ways j s c stage) ≡ true → IsFree (stage_act j s c k stage way.On)
  last_frees choosing l = tt
  last_frees (matching x σ [] used) l = leads_free s (finish_call c x σ used s) k
  last_frees (matching x σ (p ∷ rest) used) l = absurd (both_ways _ (cases_not_on (cases_at s used p (place_through σ (place.Var p.place)))) l)
  last_frees unfit l = tt

pub is_going : (w : Walk) (c : Calling × Stage) → w.call ≡ Some c → w ≡ going_on c.0 w.control w.state c.1
is_going w c e = ap (λ (o : Option (Calling × Stage)). record { state = w.state; call = o; control = w.control }) e

module _ (j : JobTree) (s : State) (c : Calling) (k : List Item) (stage : Stage) where
  act_stays : (n : ℕ) → list_any (same_way (stage_way n s.atoms stage)) (ways j (going_on c k s stage)) ≡ true → IsCalling (act j (going_on c k s stage) (stage_way n s.atoms stage))
  unfolding ways act
  act_stays n l = choice_stays j s c k n stage l

  act_frees : list_any (same_way way.On) (ways j (going_on c k s stage)) ≡ true → IsFree (act j (going_on c k s stage) way.On)
  unfolding ways act
  act_frees l = last_frees j s c k stage l

  pub choice_calls : (n : ℕ) (b : Leads) → take_listed j (going_on c k s stage) (stage_way n s.atoms stage) ≡ Some b → IsCalling b
  choice_calls n b e =
      let w = going_on c k s stage in
      subst IsCalling (taken j w (stage_way n s.atoms stage) b e).leads (act_stays n (taken_listed j w (stage_way n s.atoms stage) b e))

  pub on_frees : (b : Leads) → take_listed j (going_on c k s stage) way.On ≡ Some b → IsFree b
  on_frees b e =
      let w = going_on c k s stage in
      subst IsFree (taken j w way.On b e).leads (act_frees (taken_listed j w way.On b e))
