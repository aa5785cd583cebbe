-- How many turns a path has, each call as one, and so how many steps: what callees require is no matter there.
use Rattle.std.proofs.Common.{◌≡◌, ℕ, suc, ◌+◌, ◌*◌, ◌≤◌, List, [], ◌∷◌, Some, None, refl, sym, ◌∙◌, ap, subst, arith}
use Rattle.px_terms.specs.declared.conjuncts.Place.TheVariants as place
use Rattle.px_core.specs.CommandTree.{CommandTree, CommandTrees, no_commands, a_command, assign, unset, read, test, choose, loop, leave, load, store, malloc, free, input, call, return, break, continue, stop, divide}
use Rattle.px_core.specs.Control.{Item, Act, AfterHead, AfterBody, AfterStep, acts}
use Rattle.px_callgraph.specs.declared.states.State.{State}
use Rattle.px_callgraph.specs.declared.states.Way.{Way}
use Rattle.px_callgraph.specs.declared.states.Way.TheVariants as way
use Rattle.px_callgraph.specs.JobTree.{JobTree}
use Rattle.px_callgraph.specs.Commands.{command_done}
use Rattle.px_callgraph.specs.Renaming.{place_through}
use Rattle.px_callgraph.specs.Calls.{Calling, Stage, choosing, matching, unfit, take_case, finish_call}
use Rattle.px_callgraph.specs.States.{Done, on}
use Rattle.px_callgraph.specs.declared.outcomes.StepOutcome.TheVariants.{Next, Ends, Cut, Past}
use Rattle.px_callgraph.specs.Alternatives.{Walk, Leads, at, leads, items_after, after_command, item_act, going_on, choosing_act, stage_act, act, start}
use Rattle.px_callgraph.specs.ActsLeft.{acts_left, control_acts, FallsBelow}
use Rattle.px_callgraph.specs.Derivations.{take_listed}
use Rattle.px_callgraph.proofs.GrowLemmas.{Grows, extends_length, case_grows, call_grows}
use Rattle.px_callgraph.proofs.FallLemmas.{acts_lessen}
use Rattle.px_check.specs.Follows.{alone, turns_left_of}
use Rattle.px_check.proofs.TakeLemmas.{taken}
use Rattle.px_check.proofs.FreeLemmas.{each_end}

done_alone : (j : JobTree) (c : CommandTree) (w : Way) (s : State) → command_done (alone j) c w s ≡ command_done j c w s
done_alone j (assign to op a b) w s = refl
done_alone j (unset to) w s = refl
done_alone j (read slot site) w s = refl
done_alone j (test to how a b site) w s = refl
done_alone j (choose slot first second) w s = refl
done_alone j (loop site head body step) w s = refl
done_alone j leave w s = refl
done_alone j (load to at' field block site) w s = refl
done_alone j (store at' field block from site) w s = refl
done_alone j (malloc to block site) w s = refl
done_alone j (free at' block site) w s = refl
done_alone j (input to site) w s = refl
done_alone j (call to proc arguments site) w s = refl
done_alone j (return from) w s = refl
done_alone j break w s = refl
done_alone j continue w s = refl
done_alone j (stop word site) w s = refl
done_alone j (divide to a b site) w s = refl

item_alone : (j : JobTree) (s : State) (k : List Item) (w : Way) → item_act (alone j) s k w ≡ item_act j s k w
item_alone j s [] w = refl
item_alone j s (Act c ∷ k) w =
    ap (λ d. elim (items_after s c k) as (λ _. Leads) [ None ↦ Past s | Some k' ↦ leads s d (after_command s c k') ]) (done_alone j c w s)
item_alone j s (AfterHead l ∷ k) w = refl
item_alone j s (AfterBody l ∷ k) w = refl
item_alone j s (AfterStep l ∷ k) w = refl

act_alone : (j : JobTree) (s : State) (k : List Item) (w : Way) → act (alone j) (at k s) w ≡ act j (at k s) w
unfolding act
act_alone j s k w = item_alone j s k w

without_call : (j : JobTree) (w : Walk) → acts_left (alone j) (at w.control w.state) ≤ acts_left (alone j) w
unfolding acts_left
without_call j w = omega arith

falls_of : (j : JobTree) (n : ℕ) (a : Leads) → FallsBelow (alone j) n a → turns_left_of j a ≤ n
falls_of j n (Next w) h = let l = without_call j w in omega (arith, h, l)
falls_of j n (Ends s exit result) h = omega arith
falls_of j n (Cut s gap) h = omega arith
falls_of j n (Past s) h = omega arith

-- each way that is taken where no call is going on leaves fewer acts
pub taken_falls : (j : JobTree) (s : State) (k : List Item) (name : Way) (a : Leads) → take_listed j (at k s) name ≡ Some a → turns_left_of j a ≤ acts_left (alone j) (at k s)
taken_falls j s k name a e =
    falls_of j (acts_left (alone j) (at k s)) a
    (subst (λ z. FallsBelow (alone j) (acts_left (alone j) (at k s)) z) (act_alone j s k name ∙ (taken j (at k s) name a e).leads) (acts_lessen (alone j) (at k s) name))

-- ---- within a call

module _ (j : JobTree) (s : State) (k : List Item) where
  grown : (t : State) → Grows s t → acts_left (alone j) (at k t) ≤ acts_left (alone j) (at k s)
  unfolding acts_left
  grown t g = let l = extends_length s.trace t.trace g.trace in let u = g.steps in omega (arith, l, u)

  abbrev Keeps : Leads → Type 0
  Keeps a = turns_left_of j a ≤ suc (acts_left (alone j) (at k s))

  going_keeps : (d : Done) (go : State → Walk) → Grows s d.state → at (go d.state).control (go d.state).state ≡ at k d.state → Keeps (leads s d go)
  going_keeps d go g e =
      let l = grown d.state g in
      each_end Keeps s d go (subst (λ w. suc (acts_left (alone j) w) ≤ suc (acts_left (alone j) (at k s))) (sym e) (omega (arith, l))) (λ e r. omega arith) (λ gap. omega arith) (omega arith)

  choosing_keeps : (c : Calling) (w : Way) → Keeps (choosing_act j s c k w)
  choosing_keeps c (way.Entry n) = omega arith
  choosing_keeps c _ = omega arith

  stage_keeps : (c : Calling) (stage : Stage) (w : Way) → Keeps (stage_act j s c k stage w)
  stage_keeps c choosing w = choosing_keeps c w
  stage_keeps c (matching x σ [] used) w = going_keeps (finish_call c x σ used s) (at k) (call_grows c x σ used s) refl
  stage_keeps c (matching x σ (p ∷ rest) used) w =
      let o = place_through σ (place.Var p.place) in
      let t = take_case j.types x σ rest used p w o s in
      going_keeps (on t.state) (λ u. going_on c k u t.stage) (case_grows j.types x σ rest used p w o s) refl
  stage_keeps c unfit w = omega arith

  act_keeps : (c : Calling) (stage : Stage) (w : Way) → Keeps (act j (going_on c k s stage) w)
  unfolding act
  act_keeps c stage w = stage_keeps c stage w

  pub call_keeps : (c : Calling) (stage : Stage) (w : Way) (a : Leads) → take_listed j (going_on c k s stage) w ≡ Some a → Keeps a
  call_keeps c stage w a e = subst Keeps (taken j (going_on c k s stage) w a e).leads (act_keeps c stage w)

no_control : (cs : CommandTrees) → control_acts (acts cs []) ≡ 0
no_control no_commands = refl
no_control (a_command c rest) = no_control rest

-- of a whole path
pub start_acts : (j : JobTree) → turns_left_of j (Next (start j)) ≡ 12769
unfolding acts_left
start_acts j = ap (λ n. suc ((3 * 256 + 3 * 4000) + (0 + n))) (no_control j.body.commands)

-- two steps an act
pub still_few : (i k m n : ℕ) → i + 2 * suc m ≤ 25538 → k ≤ i + 2 → n ≤ m → k + 2 * n ≤ 25538
still_few i k m n h l e = omega (arith, h, l, e)
