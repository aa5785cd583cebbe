-- What is held of points of choice.
use Rattle.std.proofs.Common.{◌≡◌, ℕ, List, [], ◌∷◌, ◌++◌, length, Option, Some, None, refl, ap, sym, ◌∙◌, subst, append_assoc, inl, inr}
use Rattle.std.specs.Prelude.{reverse, Result, Ok, Err, IfOk, OnOk}
use Rattle.std.proofs.lemmas.List.{reverse-append}
use Rattle.std.proofs.lemmas.List.Elements.{All-nil}
use Rattle.px_terms.specs.declared.conjuncts.Conj.{Conj}
use Rattle.px_plain.specs.Held.{HeldItem}
use Rattle.px_entry.specs.declared.derivations.Step.{Step}
use Rattle.px_entry.specs.declared.tables.Cause.{Cause}
use Rattle.px_callgraph.specs.declared.states.State.{State}
use Rattle.px_callgraph.specs.declared.states.Way.{Way}
use Rattle.px_callgraph.specs.JobTree.{JobTree}
use Rattle.px_callgraph.specs.Alternatives.{Walk, Leads, act}
use Rattle.px_callgraph.specs.ActsLeft.{state_of}
use Rattle.px_callgraph.specs.Laws.{HasPlaces}
use Rattle.px_callgraph.proofs.ReachedLemmas.{reached_keep, sorted_places}
use Rattle.px_walks.specs.declared.walk.Walk.{Walk as WalkOf}
use Rattle.px_walks.specs.Walks.{walk_of}
use Rattle.px_explore.specs.declared.stops.Fork.{Fork}
use Rattle.px_explore.specs.declared.branch_points.BranchPoint.{BranchPoint}
use Rattle.px_explore.specs.declared.results.SearchResult.{SearchResult}
use Rattle.px_explore.specs.declared.trail.Trail.{Trail}
use Rattle.px_explore.specs.declared.weigh.Weighed.{Weighed}
use Rattle.px_explore.specs.declared.weigh.Weighed.TheVariants as W
use Rattle.px_explore.specs.Thinned.{IsThinnedTo, IsLeft}
use Rattle.px_explore.specs.Trails.{IsStacked, IsOn, IsKept, AreOf, IsAfter, nothing, IsAt, IsBehind}
use Rattle.px_explore.specs.Weights.{IsOpenAt, WeighsOn}
use Rattle.px_explore.specs.BranchPoints.{AreHeldDown, AreHeld, IsResting, IsReady}
use Rattle.px_explore.specs.Visits.{IsOpened, IsTakenUp}
use Rattle.px_explore.proofs.AfterLemmas.{after_more, after_act, after_nothing}

-- ---- points upon points

held_above : (fs : List BranchPoint) (more all : List HeldItem) → AreHeldDown fs all → AreHeldDown fs (more ++ all)
held_above [] more all h = tt
held_above (f ∷ fs) more all (above, items, e, n, o, r) = (more ++ above, items, ap (λ z. more ++ z) e ∙ sym (append_assoc more above items), n, o, r)

reverse_push : (fs : List BranchPoint) (f : BranchPoint) → reverse (fs ++ f ∷ []) ≡ f ∷ reverse fs
reverse_push fs f = reverse-append fs (f ∷ [])

held_push : (fs : List BranchPoint) (f : BranchPoint) (items : List HeldItem) → AreHeld fs items → f.held ≡ length items → AreOf f.fork.walk.state items → AreHeld (fs ++ f ∷ []) items
held_push fs f items h n o = subst (λ z. AreHeldDown z items) (sym (reverse_push fs f)) ([], items, refl, n, o, h)

-- the last point, and those before it
pub record IsPopped (fs : List BranchPoint) (f : BranchPoint) (all : List HeldItem) : Type 0 where
  pub above : List HeldItem
  pub items : List HeldItem
  pub all_is : all ≡ above ++ items
  pub held : f.held ≡ length items
  pub of : AreOf f.fork.walk.state items
  pub rest : AreHeld fs items

held_pop : (fs : List BranchPoint) (f : BranchPoint) (all : List HeldItem) → AreHeld (fs ++ f ∷ []) all → IsPopped fs f all
held_pop fs f all h =
    let (above, items, e, n, o, r) = subst (λ z. AreHeldDown z all) (reverse_push fs f) h in record { above = above; items = items; all_is = e; held = n; of = o; rest = r }

-- ---- back at a point of choice

pub fork_places : (j : JobTree) (f : Fork) → IsLeft j f → HasPlaces f.walk.state
fork_places j f k = sorted_places f.walk.state (reached_keep j (walk_of f.walk) k.reached).0

pub rests_upon : (t : Trail) (D : List Conj → Type 0) (fs : List BranchPoint) (f : BranchPoint) → IsResting t D (fs ++ f ∷ []) →
    (above : List HeldItem) × (items : List HeldItem) × IsOn t D (above ++ items) × (f.held ≡ length items) × AreOf f.fork.walk.state items
rests_upon t D fs f (all, on, h) = let p = held_pop fs f all h in (p.above, p.items, subst (IsOn t D) p.all_is on, p.held, p.of)

-- where its next way leads
pub ready : (j : JobTree) (old : Trail) (A : List Conj → Type 0) (t : Trail) (D : List Conj → Type 0) (fs new : List BranchPoint) (f : BranchPoint) (v : Walk) (name : Way) (from : Leads) →
    IsResting old A (fs ++ f ∷ []) →
    ((above items : List HeldItem) → IsOn old A (above ++ items) → f.held ≡ length items → AreOf f.fork.walk.state items → IsAt t D f.fork.walk.state items) →
    ((items : List HeldItem) → f.held ≡ length items → AreOf f.fork.walk.state items → AreHeld fs items → AreHeld new items) →
    v ≡ walk_of f.fork.walk → from ≡ act j v name → IsReady t D from new
ready j old A t D fs new f v name from (all, on, h) back pushed e n =
    let p = held_pop fs f all h in (
      f.fork.walk.state,
      p.items,
      back p.above p.items (subst (IsOn old A) p.all_is on) p.held p.of,
      after_act j (walk_of f.fork.walk) name from (n ∙ ap (λ z. act j z name) e),
      pushed p.items p.held p.of p.rest,
    )

-- the point stands again with its way after
pub point_again : (fs new : List BranchPoint) (f g : BranchPoint) (items : List HeldItem) → new ≡ fs ++ g ∷ [] → g.fork.walk.state ≡ f.fork.walk.state → g.held ≡ f.held → f.held ≡ length items →
    AreOf f.fork.walk.state items → AreHeld fs items → AreHeld new items
point_again fs new f g items p s n l o h = subst (λ z. AreHeld z items) (sym p) (held_push fs g items h (n ∙ l) (subst (λ z. AreOf z items) (sym s) o))

pub none_again : (fs new : List BranchPoint) (items : List HeldItem) → new ≡ fs → AreHeld fs items → AreHeld new items
none_again fs new items p h = subst (λ z. AreHeld z items) (sym p) h

-- ---- a visit

pub behind_from : (t : Trail) (D : List Conj → Type 0) (a : Leads) (fs : List BranchPoint) (s : State) → IsReady t D a fs → IsAfter (state_of a) s → IsBehind t D s
behind_from t D a fs s (r, items, at, after, h) k = (r, items, at, after_more r (state_of a) s after k)

opened : (w : Weighed) (n : ℕ) (fs new : List BranchPoint) (items : List HeldItem) → IsOpened n fs new w → IsOpenAt w items → n ≡ length items → AreHeld fs items → AreHeld new items
opened W.Out n fs new items o k l h = none_again fs new items o h
opened (W.Open f) n fs new items (inl (g, e, z, m, p)) k l h =
    subst (λ z. AreHeld z items) (sym p) (held_push fs g items h (m ∙ l) (subst (λ (z : Fork). AreOf z.walk.state items) (sym e) k))
opened (W.Open f) n fs new items (inr (none, p)) k l h = none_again fs new items p h
opened W.Past n fs new items o k l h = none_again fs new items o h
opened (W.Gives x) n fs new items o k l h = none_again fs new items o h
opened (W.Misses gap) n fs new items o k l h = none_again fs new items o h

taken : (j : JobTree) (w : Weighed) (steps : List Step) (n : ℕ) (old new : SearchResult) (fs fs' : List BranchPoint) (end : Option Cause) (items : List HeldItem) → IsTakenUp j w steps n old new fs fs' end →
    IsOpenAt w items → n ≡ length items → AreHeld fs items → AreHeld fs' items
taken j w steps n old new fs fs' None items (o, r) k l h = opened w n fs fs' items o k l h
taken j w steps n old new fs fs' (Some why) items (x, e, p, f) k l h = none_again fs fs' items p h

-- of what is thinned
open_thinly : (j : JobTree) (w v : Weighed) (items : List HeldItem) → IsThinnedTo j w v → IsOpenAt w items → IsOpenAt v items
open_thinly j W.Out v items t o = subst (λ z. IsOpenAt z items) (sym t) o
open_thinly j (W.Open f) v items (g, e, t) o = subst (λ z. IsOpenAt z items) (sym e) (subst (λ (z : WalkOf). AreOf z.state items) (sym t.walk) o)
open_thinly j W.Past v items t o = subst (λ z. IsOpenAt z items) (sym t) o
open_thinly j (W.Gives x) v items t o = subst (λ z. IsOpenAt z items) (sym t) o
open_thinly j (W.Misses gap) v items t o = subst (λ z. IsOpenAt z items) (sym t) o

pub weighs_thinly : (j : JobTree) (t : Trail) (A : List Conj → Type 0) (u : Trail) (D : List Conj → Type 0) (x : Trail) (E : List Conj → Type 0) (s : State) (w v : Weighed) →
    IsThinnedTo j w v → ((items : List HeldItem) → IsOn u D items → IsOn x E items) → WeighsOn t A u D s w → WeighsOn t A x E s v
weighs_thinly j t A u D x E s w v h on k p items at after =
    let (above, o, i) = k p items at after in (above, on (above ++ items) o, open_thinly j w v (above ++ items) h i)

-- where a visit stands
pub weighed_items : (t : Trail) (A : List Conj → Type 0) (u : Trail) (D : List Conj → Type 0) (a : Leads) (fs : List BranchPoint) (s : State) (w : Weighed) → IsReady t A a fs → IsAfter (state_of a) s →
    WeighsOn t A u D s w → (items : List HeldItem) × IsOn u D items × IsOpenAt w items
weighed_items t A u D a fs s w (r, items, at, after, h) k on = let (above, o, p) = on r items at (after_more r (state_of a) s after k) in (above ++ items, o, p)

pub still_kept : (u : Trail) (D : List Conj → Type 0) (x : Trail) (E : List Conj → Type 0) → IsKept u D → ((items : List HeldItem) → IsOn u D items → IsOn x E items) → IsKept x E
still_kept u D x E (items, on) k = (items, k items on)

pub rests : (j : JobTree) (w : Weighed) (steps : List Step) (n : ℕ) (old new : SearchResult) (fs fs' : List BranchPoint) (end : Option Cause) (t : Trail) (A : List Conj → Type 0) (u : Trail) (D : List Conj → Type 0)
    (a : Leads) (s : State) → IsReady t A a fs → IsAfter (state_of a) s → WeighsOn t A u D s w → ((items : List HeldItem) → IsOn u D items → n ≡ length items) →
    IsTakenUp j w steps n old new fs fs' end → IsResting u D fs'
rests j w steps n old new fs fs' end t A u D a s (r, items, at, after, h) k on count up =
    let (above, o, p) = on r items at (after_more r (state_of a) s after k) in (above ++ items, o, taken j w steps n old new fs fs' end (above ++ items) up p (count (above ++ items) o) (held_above (reverse fs) above items h))

-- at the start nothing is held
pub sets_ready : (t : Trail) (D : List Conj → Type 0) (a : Leads) (fs : List BranchPoint) → IsAt t D nothing [] → fs ≡ [] → IsReady t D a fs
sets_ready t D a fs at e = (nothing, [], at, after_nothing (state_of a), subst (λ z. AreHeld z []) (sym e) tt)

-- ---- both hold the same

pub ready_kept : (t : Trail) (D : List Conj → Type 0) (a : Leads) (fs : List BranchPoint) → IsReady t D a fs → IsKept t D
ready_kept t D a fs (s, items, at, after, h) = (items, at.on)

pub back_kept : (old : Trail) (A : List Conj → Type 0) (t : Trail) (D : List Conj → Type 0) (fs : List BranchPoint) (f : BranchPoint) → IsResting old A (fs ++ f ∷ []) →
    ((above items : List HeldItem) → IsOn old A (above ++ items) → f.held ≡ length items → AreOf f.fork.walk.state items → IsAt t D f.fork.walk.state items) → IsKept t D
back_kept old A t D fs f (all, on, h) back = let p = held_pop fs f all h in (p.items, (back p.above p.items (subst (IsOn old A) p.all_is on) p.held p.of).on)

pub rests_at : (t : Trail) (D : List Conj → Type 0) (fs gs : List BranchPoint) → fs ≡ gs → IsResting t D fs → IsResting t D gs
rests_at t D fs gs e h = subst (IsResting t D) e h

pub on_taken : {X E : Type 0} (r : Result X E) (P : X → Type 0) {A : Type 0} → ((x : X) → P x → A) → IfOk r P → OnOk r A
on_taken (Ok x) P f h = f x h
on_taken (Err e) P f h = tt

-- a new trail holds nothing
pub new_trail : (t : Trail) (D : List Conj → Type 0) → IsStacked t [] → D [] → t.vars ≡ 0 → t.pure ≡ 0 → t.atoms ≡ 0 → IsAt t D nothing []
new_trail t D h d v p a = record {
  on = record { stacked = h; conjuncts = d };
  of = record { vars = refl; pure = refl; places = refl };
  vars = v;
  pure = p;
  atoms = a;
  places = All-nil _;
}
