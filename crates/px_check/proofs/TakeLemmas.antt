-- What it means that a listed way was taken, or the ways of a step.
use Rattle.std.proofs.Common.{◌≡◌, ℕ, List, [], ◌∷◌, Bool, true, false, Option, Some, None, refl, ap, subst}
use Rattle.std.specs.Prelude.{Contains}
use Rattle.std.specs.List.{list_any}
use Rattle.std.proofs.lemmas.Bool.{eqb-true}
use Rattle.std.proofs.lemmas.List.Elements.{All-contains}
use Rattle.std.proofs.lemmas.Map.Views.{Contains-from_any}
use Rattle.px_callgraph.specs.declared.states.Way.{Way}
use Rattle.px_callgraph.specs.declared.states.Way.TheVariants as way
use Rattle.px_callgraph.specs.JobTree.{JobTree}
use Rattle.px_callgraph.specs.declared.outcomes.StepOutcome.TheVariants.{Next, Ends, Cut, Past}
use Rattle.px_callgraph.specs.Alternatives.{Walk, Leads, ways, act}
use Rattle.px_callgraph.specs.Laws.{IsKept, KeepsState, IsReached, by_way}
use Rattle.px_callgraph.specs.Derivations.{same_way, still_there, take_listed, take_way, choice_way, then_take, take_choices}
use Rattle.px_check.specs.Follows.{IsSound}
use Rattle.px_callgraph.proofs.ReachedLemmas.{reached_keep}

pub same_sound : (v w : Way) → same_way v w ≡ true → v ≡ w
same_sound way.On way.On e = refl
same_sound way.Then way.Then e = refl
same_sound way.Else way.Else e = refl
same_sound way.Null way.Null e = refl
same_sound way.Made way.Made e = refl
same_sound way.Written way.Written e = refl
same_sound way.Unwritten way.Unwritten e = refl
same_sound (way.Atom m) (way.Atom n) e = ap way.Atom (eqb-true m n e)
same_sound way.MissingLive way.MissingLive e = refl
same_sound way.MissingFreed way.MissingFreed e = refl
same_sound way.Missing way.Missing e = refl
same_sound (way.Entry m) (way.Entry n) e = ap way.Entry (eqb-true m n e)
same_sound way.Drop way.Drop e = refl
same_sound way.ByZero way.ByZero e = refl
same_sound way.Divided way.Divided e = refl
same_sound _ _ e = cc

pub there_is : (a b : Leads) → still_there a ≡ Some b → a ≡ b
there_is (Next w) b e = cc
there_is (Ends s exit result) b e = cc
there_is (Cut s gap) b e = cc
there_is (Past s) b e = cc

-- the way is listed, and leads there
pub record Takes (j : JobTree) (w : Walk) (name : Way) (a : Leads) : Type 0 where
  pub listed : Contains (ways j w) name
  pub leads : act j w name ≡ a

pub taken : (j : JobTree) (w : Walk) (name : Way) (a : Leads) → take_listed j w name ≡ Some a → Takes j w name a
taken j w name a e = by (list_any (same_way name) (ways j w)) refl e
  where
    by : (b : Bool) → list_any (same_way name) (ways j w) ≡ b → elim b as (λ _. Option Leads) [ true ↦ still_there (act j w name) | false ↦ None ] ≡ Some a → Takes j w name a
    by true l e = record { listed = Contains-from_any same_sound name (ways j w) l; leads = there_is (act j w name) a e }
    by false l e = cc

sound_leads : (j : JobTree) (w : Walk) (name : Way) → IsReached j w → Contains (ways j w) name → (a : Leads) → act j w name ≡ a → KeepsState w.state a → IsSound j a
sound_leads j w name r l (Next v) e k = by_way name r l e
sound_leads j w name r l (Ends s exit result) e k = let h : IsKept w.state s = k in h.sorted
sound_leads j w name r l (Cut s gap) e k = tt
sound_leads j w name r l (Past s) e k = tt

-- it leads to a place that is reached, or to a well-sorted end
pub taken_sound : (j : JobTree) (w : Walk) (name : Way) (a : Leads) → IsReached j w → take_listed j w name ≡ Some a → IsSound j a
taken_sound j w name a r e =
    let t = taken j w name a e in
    sound_leads j w name r t.listed a t.leads
    (subst (λ z. KeepsState w.state z) t.leads (All-contains (λ name. KeepsState w.state (act j w name)) (ways j w) name (reached_keep j w r).1 t.listed))

-- ---- the ways of a step

module _ (j : JobTree) where
  pub way_sound : (name : Walk → Way) (a b : Leads) → take_way j name a ≡ Some b → IsSound j a → IsSound j b
  way_sound name (Next w) b e h = taken_sound j w (name w) b h e
  way_sound name (Ends s exit result) b e h = cc
  way_sound name (Cut s gap) b e h = cc
  way_sound name (Past s) b e h = cc

  pub choices_sound : (choices : List ℕ) (a b : Leads) → take_choices j choices a ≡ Some b → IsSound j a → IsSound j b
  choices_sound [] a b e h = way_sound (λ w. way.On) a b e h
  choices_sound (c ∷ choices) a b e h = by (take_way j (choice_way c) a) refl e (λ d. choices_sound choices d b)
    where
      by : (o : Option Leads) → take_way j (choice_way c) a ≡ o → then_take (take_choices j choices) o ≡ Some b → ((d : Leads) → take_choices j choices d ≡ Some b → IsSound j d → IsSound j b) → IsSound j b
      by None g f go = cc
      by (Some d) g f go = go d f (way_sound (choice_way c) a d g h)
