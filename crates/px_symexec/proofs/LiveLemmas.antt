-- After a state whose constraint is refuted no prefix is live.
use Rattle.std.proofs.Common.{◌≡◌, ℕ, zero, suc, List, [], ◌∷◌, inl, refl, sym, subst}
use Rattle.px_entry.proofs.Lists.{Each, each_all}
use Rattle.px_solver.specs.Decisions.{IsRefuted}
use Rattle.px_solver.proofs.Growing.{refuted_stays}
use Rattle.px_callgraph.specs.declared.states.State.{State}
use Rattle.px_callgraph.specs.declared.states.Way.{Way}
use Rattle.px_callgraph.specs.JobTree.{JobTree}
use Rattle.px_callgraph.specs.declared.outcomes.StepOutcome.TheVariants.{Next, Ends, Cut, «Past» as IsPast}
use Rattle.px_callgraph.specs.Alternatives.{Walk, Leads, ways, act}
use Rattle.px_callgraph.specs.ActsLeft.{state_of, acts_left_of}
use Rattle.px_callgraph.specs.Laws.{HasPlaces, IsLater, IsReached, by_way}
use Rattle.px_callgraph.proofs.LaterLemmas.{constraints_grow}
use Rattle.px_callgraph.proofs.ReachedLemmas.{reached_keep, sorted_places}
use Rattle.px_symexec.specs.Prefixes.{Prefix, Dead, Choice, constraint, from_listed, prefixes_within, prefixes}
use Rattle.px_symexec.specs.Tables.{IsOpenState, IsLive}
use Rattle.px_symexec.specs.Laws.{RefutedStaysOut}
use Rattle.px_symexec.proofs.Lists.{IsIn, in_contains, each_flat}

-- what is refuted stays refuted later
pub refuted_later : (kinds : List ℕ) (s t : State) → IsLater s t → IsRefuted s.vars (constraint s) kinds → IsRefuted t.vars (constraint t) kinds
refuted_later kinds s t h r =
    subst (λ vars. IsRefuted vars (constraint t) kinds) (sym h.vars.1) (refuted_stays.grows s.vars h.vars.0 (constraint s) (constraint t) kinds h.constraint r)

abbrev pub IsNotLive : List ℕ → Prefix → Type 0
IsNotLive kinds p = ¬ IsLive kinds p

from_each : (P : Prefix → Type 0) (s : State) (ws : List Way) (f : Way → List Prefix) → P (Dead s) → P (Choice s) → ((w : Way) → IsIn w ws → Each P (f w)) → Each P (from_listed s ws f)
from_each P s [] f d h k = (d, tt)
from_each P s (w ∷ []) f d h k = k w (inl refl)
from_each P s (w ∷ more ∷ ws) f d h k = (h, each_flat P f (w ∷ more ∷ ws) k)

-- For any fact that listed ways keep, and that gives the places of blocks: it holds where a path goes on.
abbrev pub Goes : (Walk → Type 0) → Leads → Type 0
Goes Fact (Next w) = Fact w
Goes Fact (Ends s exit result) = Unit {0}
Goes Fact (Cut s gap) = Unit {0}
Goes Fact (IsPast s) = Unit {0}

module _ (j : JobTree) (Fact : Walk → Type 0) (places : (w : Walk) → Fact w → HasPlaces w.state)
    (keeps : (w : Walk) → Fact w → (name : Way) → IsIn name (ways j w) → Goes Fact (act j w name)) where
  later_out : (w : Walk) (name : Way) → Fact w → ¬ IsOpenState j.kinds w.state → ¬ IsOpenState j.kinds (state_of (act j w name))
  later_out w name f h k = h (λ r. k (refuted_later j.kinds w.state (state_of (act j w name)) (constraints_grow j w name (places w f)) r))

  out_within : (n : ℕ) (a : Leads) → Goes Fact a → ¬ IsOpenState j.kinds (state_of a) → Each (IsNotLive j.kinds) (prefixes_within n j a)
  out_within n (Ends s exit result) f h = (h, tt)
  out_within n (Cut s gap) f h = (h, tt)
  out_within n (IsPast s) f h = (h, tt)
  out_within zero (Next w) f h = (λ k. k, tt)
  out_within (suc n) (Next w) f h =
      from_each (IsNotLive j.kinds) w.state (ways j w) (λ name. prefixes_within n j (act j w name)) (λ k. k) h
      (λ name i. out_within n (act j w name) (keeps w f name i) (later_out w name f h))

  -- after a state with a refuted constraint no prefix is live
  pub out_all : (a : Leads) → Goes Fact a → ¬ IsOpenState j.kinds (state_of a) → Each (IsNotLive j.kinds) (prefixes j a)
  unfolding prefixes
  out_all a f h = out_within (acts_left_of j a) a f h

  -- by any way that is listed there
  pub out_next : (w : Walk) (name : Way) → IsIn name (ways j w) → Fact w → ¬ IsOpenState j.kinds w.state → Each (IsNotLive j.kinds) (prefixes j (act j w name))
  out_next w name i f h = out_all (act j w name) (keeps w f name i) (later_out w name f h)

-- ---- of what is reached

reached_goes : (j : JobTree) (v : Walk) → IsReached j v → (name : Way) → IsIn name (ways j v) → (a : Leads) → act j v name ≡ a → Goes (IsReached j) a
reached_goes j v r name i (Next w) e = by_way {w = w} name r (in_contains name (ways j v) i) e
reached_goes j v r name i (Ends s exit result) e = tt
reached_goes j v r name i (Cut s gap) e = tt
reached_goes j v r name i (IsPast s) e = tt

reached_places : (j : JobTree) (w : Walk) → IsReached j w → HasPlaces w.state
reached_places j w r = sorted_places w.state (reached_keep j w r).0

pub reached_next : (j : JobTree) (v : Walk) → IsReached j v → (name : Way) → IsIn name (ways j v) → Goes (IsReached j) (act j v name)
reached_next j v r name i = reached_goes j v r name i (act j v name) refl

-- after what is reached and refuted
pub out_reached : (j : JobTree) (a : Leads) → Goes (IsReached j) a → ¬ IsOpenState j.kinds (state_of a) → Each (IsNotLive j.kinds) (prefixes j a)
out_reached j a r h = out_all j (IsReached j) (reached_places j) (reached_next j) a r h

pub refuted_stays_out : RefutedStaysOut
refuted_stays_out j w r h = each_all (IsNotLive j.kinds) (prefixes j (Next w)) (out_reached j (Next w) r (λ k. k h))
