-- What each turn keeps: the place where it leads is reached, no call is going on there, and fewer turns are left.
use Rattle.std.proofs.Common.{◌≡◌, inl, inr, ℕ, ◌≤◌, List, [], ◌∷◌, true, false, Option, Some, None, refl, ap, subst, arith}
use Rattle.px_core.specs.Control.{Item}
use Rattle.px_entry.specs.declared.derivations.Step.{Step}
use Rattle.px_callgraph.specs.declared.states.State.{State}
use Rattle.px_callgraph.specs.declared.states.Way.{Way}
use Rattle.px_callgraph.specs.declared.states.Way.TheVariants as way
use Rattle.px_callgraph.specs.JobTree.{JobTree}
use Rattle.px_callgraph.specs.Calls.{Calling, Stage}
use Rattle.px_callgraph.specs.declared.outcomes.StepOutcome.TheVariants.{Next, Ends, Cut, Past}
use Rattle.px_callgraph.specs.Alternatives.{Walk, Leads, at}
use Rattle.px_callgraph.specs.ActsLeft.{acts_left}
use Rattle.px_callgraph.specs.Laws.{IsReached}
use Rattle.px_callgraph.specs.Derivations.{take_listed, take_way, choice_way, then_take, take_choices}
use Rattle.px_check.specs.Steps.{is_call}
use Rattle.px_check.specs.Follows.{IsSound, IsFree, alone, turns_left_of}
use Rattle.px_check.specs.Courses.{IsTurn}
use Rattle.px_check.proofs.TakeLemmas.{taken_sound, choices_sound}
use Rattle.px_check.proofs.StepLemmas.{whole_call, IsTaken, turn_taken}
use Rattle.px_check.proofs.FreeLemmas.{IsCalling, way_frees, call_enters, is_going, choice_calls, on_frees}
use Rattle.px_check.proofs.FewActs.{taken_falls, call_keeps}

-- ---- a call that was entered

module _ (j : JobTree) where
  -- a choice goes on with the call
  record Stays (a b : Leads) : Type 0 where
    pub calling : IsCalling b
    pub few : turns_left_of j b ≤ turns_left_of j a

  -- the call is over
  record IsOver (a b : Leads) : Type 0 where
    pub free : IsFree b
    pub few : turns_left_of j b ≤ turns_left_of j a

  choice_at : (w : Walk) (c : Calling × Stage) (n : ℕ) (b : Leads) → w.call ≡ Some c → take_listed j w (choice_way n w) ≡ Some b → Stays (Next w) b
  choice_at w c n b g e =
      let f = subst (λ v. take_listed j v (choice_way n v) ≡ Some b) (is_going w c g) e in
      record { calling = choice_calls j w.state c.0 w.control c.1 n b f; few = call_keeps j w.state w.control c.0 c.1 _ b f }

  last_at : (w : Walk) (c : Calling × Stage) (b : Leads) → w.call ≡ Some c → take_listed j w way.On ≡ Some b → IsOver (Next w) b
  last_at w c b g e =
      let f = subst (λ v. take_listed j v way.On ≡ Some b) (is_going w c g) e in
      record { free = on_frees j w.state c.0 w.control c.1 b f; few = call_keeps j w.state w.control c.0 c.1 way.On b f }

  choice_of : (n : ℕ) (a b : Leads) → IsCalling a → take_way j (choice_way n) a ≡ Some b → Stays a b
  choice_of n (Next w) b c e = choice_at w c.0 n b c.1 e
  choice_of n (Ends s exit result) b c e = cc
  choice_of n (Cut s gap) b c e = cc
  choice_of n (Past s) b c e = cc

  last_of : (a b : Leads) → IsCalling a → take_way j (λ w. way.On) a ≡ Some b → IsOver a b
  last_of (Next w) b c e = last_at w c.0 b c.1 e
  last_of (Ends s exit result) b c e = cc
  last_of (Cut s gap) b c e = cc
  last_of (Past s) b c e = cc

  choices_end : (choices : List ℕ) (a b : Leads) → IsCalling a → take_choices j choices a ≡ Some b → IsOver a b
  choices_end [] a b c e = last_of a b c e
  choices_end (n ∷ choices) a b c e = by (take_way j (choice_way n) a) refl e (λ d. choices_end choices d b)
    where
      by : (o : Option Leads) → take_way j (choice_way n) a ≡ o → then_take (take_choices j choices) o ≡ Some b → ((d : Leads) → IsCalling d → take_choices j choices d ≡ Some b → IsOver d b) → IsOver a b
      by None g f go = cc
      by (Some d) g f go =
          let s = choice_of n a d c g in
          let o = go d s.calling f in
          let m = s.few in let l = o.few in
          record { free = o.free; few = omega (arith, m, l) }

-- ---- turns

-- from a place where no call is going on
pub record IsKept (j : JobTree) (s : State) (k : List Item) (a : Leads) : Type 0 where
  pub sound : IsSound j a
  pub free : IsFree a
  pub few : turns_left_of j a ≤ acts_left (alone j) (at k s)

module _ (j : JobTree) (s : State) (k : List Item) (a : Leads) (r : IsReached j (at k s)) where
  name_kept : is_call k ≡ false → (name : Way) → take_listed j (at k s) name ≡ Some a → IsKept j s k a
  name_kept c name e = record { sound = taken_sound j (at k s) name a r e; free = way_frees j s k name a c e; few = taken_falls j s k name a e }

  call_kept : is_call k ≡ true → (cs : List ℕ) → whole_call j (at k s) cs ≡ Some a → IsKept j s k a
  call_kept c cs e = by (take_listed j (at k s) way.On) refl e
    where
      by : (o : Option Leads) → take_listed j (at k s) way.On ≡ o → then_take (take_choices j cs) o ≡ Some a → IsKept j s k a
      by None g f = cc
      by (Some d) g f =
          let o = choices_end j cs d a (call_enters j s k way.On d c g) f in
          let m = o.few in let l = taken_falls j s k way.On d g in
          record { sound = choices_sound j cs d a f (taken_sound j (at k s) way.On d r g); free = o.free; few = omega (arith, m, l) }

  taken_kept : IsTaken j (at k s) a → IsKept j s k a
  taken_kept (inl t) = name_kept t.0 t.1.0 t.1.1
  taken_kept (inr t) = call_kept t.0 t.1.0 t.1.1

pub is_at : (w : Walk) → w.call ≡ None → w ≡ at w.control w.state
is_at w e = ap (λ (o : Option (Calling × Stage)). record { state = w.state; call = o; control = w.control }) e

pub turn_kept : (j : JobTree) (w : Walk) (taken : List Step) (a : Leads) → w.call ≡ None → IsReached j w → IsTurn j w taken a → IsKept j w.state w.control a
turn_kept j w taken a e r t =
    let i = is_at w e in
    taken_kept j w.state w.control a (subst (IsReached j) i r) (subst (λ v. IsTaken j v a) i (turn_taken j w a taken t))
