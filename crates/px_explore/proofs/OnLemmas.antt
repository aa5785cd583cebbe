-- A path that goes on by the way that is listed alone.
use Rattle.std.proofs.Common.{◌≡◌, ◌<◌, ◌≤◌, List, [], ◌∷◌, length, Option, refl, sym, ap, subst, ◌∙◌}
use Rattle.px_entry.specs.declared.derivations.Step.{Step}
use Rattle.px_callgraph.specs.declared.states.State.{State}
use Rattle.px_callgraph.specs.declared.states.Way.{Way}
use Rattle.px_callgraph.specs.JobTree.{JobTree}
use Rattle.px_callgraph.specs.declared.outcomes.StepOutcome.TheVariants.{Next}
use Rattle.px_callgraph.specs.Alternatives.{Walk, ways, act}
use Rattle.px_callgraph.specs.ActsLeft.{acts_left_of}
use Rattle.px_steps.specs.declared.led.Led.{Led}
use Rattle.px_walks.specs.Walks.{at_walk}
use Rattle.px_explore.specs.Stands.{IsOn}
use Rattle.px_explore.specs.Taken.{steps_with}
use Rattle.px_explore.specs.Paths.{Path}
use Rattle.px_explore.specs.declared.stops.Listed.{Listed}
use Rattle.px_explore.specs.Stops.{AreListed}
use Rattle.px_explore.proofs.AfterLemmas.{after_alone}
use Rattle.px_explore.proofs.StandLemmas.{stands_alone}
use Rattle.px_explore.proofs.StopLemmas.{alone, less}

pub listed_as : (names : List Way) (l m : Listed) → AreListed names l → l ≡ m → AreListed names m
listed_as names l m h e = subst (AreListed names) e h

-- what an act leaves in the place of a walk, and where that leads
pub on_led : (j : JobTree) (s : State) (ps : List Path) (w v : Walk) (name : Way) (steps new : List Step) (led is : Option Led) → length j.body.parameters ≤ 8192 →
    ways j w ≡ name ∷ [] → at_walk led v ≡ act j w name → new ≡ steps_with w name steps → led ≡ is → IsOn j s ps steps (Next w) → IsOn j s ps new (at_walk is v)
on_led j s ps w v name steps new led is few l a t e on =
    let to : at_walk is v ≡ act j w name = ap (λ z. at_walk z v) (sym e) ∙ a in record {
      stands = stands_alone j (Next w) (at_walk is v) w (name ∷ []) name few refl (sym l) refl refl to on.stands;
      after = after_alone j s (Next w) (at_walk is v) w name refl to on.after;
      same = alone j (Next w) (at_walk is v) w (name ∷ []) name steps new ps refl (sym l) refl refl to t on.same;
    }

pub fewer : (j : JobTree) (w v : Walk) (name : Way) (led is : Option Led) → at_walk led v ≡ act j w name → led ≡ is → acts_left_of j (at_walk is v) < acts_left_of j (Next w)
fewer j w v name led is a e = less j (Next w) (at_walk is v) w name refl (ap (λ z. at_walk z v) (sym e) ∙ a)
