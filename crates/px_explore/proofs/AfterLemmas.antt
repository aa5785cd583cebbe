-- What a state has, those that are reached from it have too.
use Rattle.std.proofs.Common.{◌≡◌, ℕ, List, [], ◌∷◌, ◌++◌, map, refl, ap, sym, ◌∙◌, subst, append-nil}
use Rattle.px_terms.specs.declared.types.TypeId.{TypeId}
use Rattle.px_terms.specs.declared.variables.Var.{Var}
use Rattle.px_entry.specs.declared.atoms.Atom.{Atom}
use Rattle.px_callgraph.specs.declared.states.State.{State}
use Rattle.px_callgraph.specs.declared.states.Way.{Way}
use Rattle.px_callgraph.specs.JobTree.{JobTree}
use Rattle.px_callgraph.specs.declared.outcomes.StepOutcome.TheVariants.{Next}
use Rattle.px_callgraph.specs.Alternatives.{Walk, Leads, act}
use Rattle.px_callgraph.specs.ActsLeft.{state_of}
use Rattle.px_callgraph.proofs.GrowLemmas.{base, Grows, Extends, extends_trans}
use Rattle.px_callgraph.proofs.LaterLemmas.{walk_grows}
use Rattle.px_explore.specs.Trails.{places_of, IsAfter, nothing}

abbrev base_place : Var × TypeId → ℕ
base_place b = b.0.0

places_by : (atoms : List Atom) → map base_place (map base atoms) ≡ places_of atoms
places_by [] = refl
places_by (a ∷ atoms) = ap (λ z. a.place.0 ∷ z) (places_by atoms)

map_extends : {A B : Type 0} (f : A → B) (xs ys : List A) → Extends xs ys → Extends (map f xs) (map f ys)
map_extends f xs ys e = (map f e.0, ap (map f) e.1 ∙ map_more f xs e.0)
  where
    map_more : {A B : Type 0} (f : A → B) (xs ys : List A) → map f (xs ++ ys) ≡ map f xs ++ map f ys
    map_more f [] ys = refl
    map_more f (x ∷ xs) ys = ap (λ z. f x ∷ z) (map_more f xs ys)

grows_after : (s t : State) → Grows s t → IsAfter s t
grows_after s t g =
    let e = map_extends base_place (map base s.atoms) (map base t.atoms) g.atoms in record {
      vars = g.vars;
      pure = g.pure;
      places = (e.0, sym (places_by t.atoms) ∙ e.1 ∙ ap (λ z. z ++ e.0) (places_by s.atoms));
    }

pub after_same : (s : State) → IsAfter s s
after_same s = record { vars = ([], sym (append-nil s.vars)); pure = ([], sym (append-nil s.pure)); places = ([], sym (append-nil (places_of s.atoms))) }

pub after_more : (s t u : State) → IsAfter s t → IsAfter t u → IsAfter s u
after_more s t u f g = record {
  vars = extends_trans s.vars t.vars u.vars f.vars g.vars;
  pure = extends_trans s.pure t.pure u.pure f.pure g.pure;
  places = extends_trans (places_of s.atoms) (places_of t.atoms) (places_of u.atoms) f.places g.places;
}

pub after_nothing : (s : State) → IsAfter nothing s
after_nothing s = record { vars = (s.vars, refl); pure = (s.pure, refl); places = (places_of s.atoms, refl) }

-- where an act leads
pub after_act : (j : JobTree) (w : Walk) (name : Way) (a : Leads) → a ≡ act j w name → IsAfter w.state (state_of a)
after_act j w name a e = subst (λ z. IsAfter w.state (state_of z)) (sym e) (grows_after w.state (state_of (act j w name)) (walk_grows j w name))

-- by the way that is listed alone
pub after_alone : (j : JobTree) (s : State) (here next : Leads) (w : Walk) (name : Way) → here ≡ Next w → next ≡ act j w name → IsAfter s (state_of here) → IsAfter s (state_of next)
after_alone j s here next w name h n a = after_more s w.state (state_of next) (subst (λ z. IsAfter s (state_of z)) h a) (after_act j w name next n)

-- of equal places
pub after_at : (s : State) (here a : Leads) → here ≡ a → IsAfter s (state_of here) → IsAfter s (state_of a)
after_at s here a e h = subst (λ z. IsAfter s (state_of z)) e h
