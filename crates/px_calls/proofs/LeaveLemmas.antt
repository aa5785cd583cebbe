-- How an entry leaves blocks, one by one.
use Rattle.std.proofs.Common.{◌≡◌, ◌<◌, ◌+◌, ℕ, Bool, true, false, ◌||◌, not, List, [], ◌∷◌, ◌++◌, map, take, length, get_or, length-append, append-nil, Option, Some, None, refl, ap, sym, subst, ◌∙◌}
use Rattle.std.specs.Prelude.{flat_map, filter}
use Rattle.std.specs.List.{list_any}
use Rattle.std.proofs.lemmas.List.{take_more, map-append}
use Rattle.std.proofs.lemmas.List.Elements.{filter-append}
use Rattle.std.proofs.lemmas.List.Folds.{list_any-append}
use Rattle.std.proofs.lemmas.Grind.{flat_map-append}
use Rattle.px_terms.specs.Polynomials.{Polynomial}
use Rattle.px_terms.specs.declared.types.TypeId.{TypeId}
use Rattle.px_terms.specs.declared.variables.VarInfo.{VarInfo}
use Rattle.px_terms.specs.declared.conjuncts.Place.{Place}
use Rattle.px_terms.specs.declared.conjuncts.Place.TheVariants as place
use Rattle.px_entry.specs.declared.atoms.Atom.{Atom}
use Rattle.px_entry.specs.declared.atoms.AtomState.{AtomState}
use Rattle.px_entry.specs.Sorts.{is_long, is_made}
use Rattle.px_entry.specs.Constraint.{found_atoms, made_atoms}
use Rattle.px_callgraph.specs.Accesses.{set_atom, atom_of}
use Rattle.px_callgraph.specs.Renaming.{Substitution, place_through, state_through, state_terms}
use Rattle.px_callgraph.specs.Calls.{made_through, update_atoms}
use Rattle.px_match.specs.Through.{IsThrough}
use Rattle.px_calls.specs.declared.leaving.Left.{Left}
use Rattle.px_calls.specs.Leaving.{IsLeft, is_lacking, state_or_freed, made_at, update_states}
use Rattle.px_callgraph.proofs.LengthLemmas.{length_set_atom}

-- ---- one block

lacking_is : (o : Option AtomState) (s : AtomState) (terms : List Polynomial) → IsThrough o s terms → is_lacking o ≡ list_any is_long terms
lacking_is None s terms h = sym h
lacking_is (Some t) s terms h = sym h.1

there_is : (o : Option AtomState) (s : AtomState) (terms : List Polynomial) → IsThrough o s terms → is_lacking o ≡ false → state_or_freed o ≡ s
there_is None s terms h e = absurd (cc)
there_is (Some t) s terms h e = h.0

made_by : (o : Option Place) (block : TypeId) (s : AtomState) → elim o as (λ _. List Atom) [ None ↦ [] | Some p ↦ elim p as (λ _. List Atom) [ place.Null ↦ [] | place.Var v ↦ atom_of v block s ∷ [] ] ] ≡ made_at o block s
made_by None block s = refl
made_by (Some place.Null) block s = refl
made_by (Some (place.Var v)) block s = refl

made_is : (σ : Substitution) (a : Atom) → made_through σ a ≡ made_at (place_through σ (place.Var a.place)) a.block (state_through σ a.state)
made_is σ a = made_by (place_through σ (place.Var a.place)) a.block (state_through σ a.state)

as_many : (o : Option Place) (block : TypeId) (s t : AtomState) → length (made_at o block s) ≡ length (made_at o block t)
as_many None block s t = refl
as_many (Some place.Null) block s t = refl
as_many (Some (place.Var v)) block s t = refl

pub first_false : (a b : Bool) → (a || b) ≡ false → a ≡ false
first_false true b e = cc
first_false false b e = refl

pub second_false : (a b : Bool) → (a || b) ≡ false → b ≡ false
second_false true b e = cc
second_false false b e = e

abbrev terms_left : Substitution → List Atom → List Polynomial
terms_left σ atoms = flat_map (λ (a : Atom). state_terms σ a.state) atoms

long_more : (σ : Substitution) (atoms : List Atom) (a : Atom) (old new lacking : Bool) → old ≡ list_any is_long (terms_left σ atoms) → lacking ≡ list_any is_long (state_terms σ a.state) → new ≡ (old || lacking) →
    new ≡ list_any is_long (terms_left σ (atoms ++ a ∷ []))
long_more σ atoms a old new lacking h l n =
    n ∙ ap (λ z. z || lacking) h ∙ ap (λ z. list_any is_long (terms_left σ atoms) || z) l
    ∙ ap (λ z. list_any is_long (terms_left σ atoms) || list_any is_long z) (sym (append-nil (state_terms σ a.state)))
    ∙ sym (list_any-append is_long (terms_left σ atoms) (state_terms σ a.state ++ []))
    ∙ ap (list_any is_long) (sym (flat_map-append (λ (x : Atom). state_terms σ x.state) atoms (a ∷ [])))

-- which atoms are found, and which are made
kept_once : (a : Atom) (b : Bool) → filter (λ (x : Atom). b) (a ∷ []) ≡ elim b as (λ _. List Atom) [ true ↦ a ∷ [] | false ↦ [] ]
kept_once a true = refl
kept_once a false = refl

kept_by : (test : Atom → Bool) (a : Atom) (b : Bool) → test a ≡ b → filter test (a ∷ []) ≡ elim b as (λ _. List Atom) [ true ↦ a ∷ [] | false ↦ [] ]
kept_by test a b e = ap (λ z. filter (λ (x : Atom). z) (a ∷ [])) e ∙ kept_once a b

turned : (a : Atom) (b : Bool) → elim (not b) as (λ _. List Atom) [ true ↦ a ∷ [] | false ↦ [] ] ≡ elim b as (λ _. List Atom) [ true ↦ [] | false ↦ a ∷ [] ]
turned a true = refl
turned a false = refl

found_more : (vars : List VarInfo) (atoms : List Atom) (a : Atom) (b : Bool) → is_made vars a.place.0 ≡ b → found_atoms vars (atoms ++ a ∷ []) ≡ found_atoms vars atoms ++ elim b as (λ _. List Atom) [ true ↦ [] | false ↦ a ∷ [] ]
found_more vars atoms a b e =
    filter-append (λ (x : Atom). not (is_made vars x.place.0)) atoms (a ∷ [])
    ∙ ap (λ z. found_atoms vars atoms ++ z) (kept_by (λ (x : Atom). not (is_made vars x.place.0)) a (not b) (ap not e) ∙ turned a b)

made_more : (vars : List VarInfo) (atoms : List Atom) (a : Atom) (b : Bool) → is_made vars a.place.0 ≡ b → made_atoms vars (atoms ++ a ∷ []) ≡ made_atoms vars atoms ++ elim b as (λ _. List Atom) [ true ↦ a ∷ [] | false ↦ [] ]
made_more vars atoms a b e =
    filter-append (λ (x : Atom). is_made vars x.place.0) atoms (a ∷ [])
    ∙ ap (λ z. made_atoms vars atoms ++ z) (kept_by (λ (x : Atom). is_made vars x.place.0) a b e)

abbrev states_of : Substitution → List Atom → List AtomState
states_of σ atoms = map (λ (a : Atom). state_through σ a.state) atoms

-- a block that the callee made
pub made_left : (vars : List VarInfo) (σ : Substitution) (atoms : List Atom) (a : Atom) (o : Option AtomState) (old new : Left) → is_made vars a.place.0 ≡ true → IsThrough o (state_through σ a.state) (state_terms σ a.state) →
    new.long ≡ (old.long || is_lacking o) → new.found.items ≡ old.found.items → new.made ≡ old.made ++ made_at (place_through σ (place.Var a.place)) a.block (state_or_freed o) →
    IsLeft vars σ atoms old → IsLeft vars σ (atoms ++ a ∷ []) new
made_left vars σ atoms a o old new e k l f m h =
    let p : Option Place = place_through σ (place.Var a.place) in
    let made : flat_map (made_through σ) (made_atoms vars (atoms ++ a ∷ [])) ≡ flat_map (made_through σ) (made_atoms vars atoms) ++ made_at p a.block (state_through σ a.state) =
    ap (flat_map (made_through σ)) (made_more vars atoms a true e)
    ∙ flat_map-append (made_through σ) (made_atoms vars atoms) (a ∷ [])
    ∙ ap (λ z. flat_map (made_through σ) (made_atoms vars atoms) ++ z) (append-nil (made_through σ a) ∙ made_is σ a) in
    record {
      long_one = long_more σ atoms a old.long new.long (is_lacking o) h.long_one (lacking_is o (state_through σ a.state) (state_terms σ a.state) k) l;
      found = λ s. f ∙ h.found (first_false old.long (is_lacking o) (sym l ∙ s)) ∙ ap (states_of σ) (sym (append-nil (found_atoms vars atoms)) ∙ sym (found_more vars atoms a true e));
      made = λ s.
          m ∙ ap (λ z. z ++ made_at p a.block (state_or_freed o)) (h.made (first_false old.long (is_lacking o) (sym l ∙ s)))
          ∙ ap (λ z. flat_map (made_through σ) (made_atoms vars atoms) ++ made_at p a.block z) (there_is o (state_through σ a.state) (state_terms σ a.state) k (second_false old.long (is_lacking o) (sym l ∙ s)))
          ∙ sym made;
      count =
          ap length m ∙ length-append old.made (made_at p a.block (state_or_freed o))
          ∙ ap (λ z. z + length (made_at p a.block (state_or_freed o))) h.count
          ∙ ap (λ z. length (flat_map (made_through σ) (made_atoms vars atoms)) + z) (as_many p a.block (state_or_freed o) (state_through σ a.state))
          ∙ sym (length-append (flat_map (made_through σ) (made_atoms vars atoms)) (made_at p a.block (state_through σ a.state)))
          ∙ ap length (sym made);
    }

-- one that it found
pub found_left : (vars : List VarInfo) (σ : Substitution) (atoms : List Atom) (a : Atom) (o : Option AtomState) (old new : Left) → is_made vars a.place.0 ≡ false → IsThrough o (state_through σ a.state) (state_terms σ a.state) →
    new.long ≡ (old.long || is_lacking o) → new.found.items ≡ old.found.items ++ state_or_freed o ∷ [] → new.made ≡ old.made → IsLeft vars σ atoms old → IsLeft vars σ (atoms ++ a ∷ []) new
found_left vars σ atoms a o old new e k l f m h =
    let made : made_atoms vars (atoms ++ a ∷ []) ≡ made_atoms vars atoms = made_more vars atoms a false e ∙ append-nil (made_atoms vars atoms) in
    record {
      long_one = long_more σ atoms a old.long new.long (is_lacking o) h.long_one (lacking_is o (state_through σ a.state) (state_terms σ a.state) k) l;
      found = λ s.
          f ∙ ap (λ z. z ++ state_or_freed o ∷ []) (h.found (first_false old.long (is_lacking o) (sym l ∙ s)))
          ∙ ap (λ z. states_of σ (found_atoms vars atoms) ++ z ∷ []) (there_is o (state_through σ a.state) (state_terms σ a.state) k (second_false old.long (is_lacking o) (sym l ∙ s)))
          ∙ sym (map-append (λ (x : Atom). state_through σ x.state) (found_atoms vars atoms) (a ∷ []))
          ∙ ap (states_of σ) (sym (found_more vars atoms a false e));
      made = λ s. m ∙ h.made (first_false old.long (is_lacking o) (sym l ∙ s)) ∙ ap (flat_map (made_through σ)) (sym made);
      count = ap length m ∙ h.count ∙ ap (λ z. length (flat_map (made_through σ) z)) (sym made);
    }

-- ---- all of them

pub none_left : (vars : List VarInfo) (σ : Substitution) (left : Left) → left.long ≡ false → left.found.items ≡ [] → left.made ≡ [] → IsLeft vars σ [] left
none_left vars σ left l f m = record {
  long_one = l;
  found = λ _. f;
  made = λ _. m;
  count = ap length m;
}

pub next_left : (vars : List VarInfo) (σ : Substitution) (all : List Atom) (i : ℕ) (a : Atom) (old new : Left) → i < length all → a ≡ get_or all i a →
    ((atoms : List Atom) → IsLeft vars σ atoms old → IsLeft vars σ (atoms ++ a ∷ []) new) → IsLeft vars σ (take i all) old → IsLeft vars σ (take (i + 1) all) new
next_left vars σ all i a old new l e step h =
    subst (λ z. IsLeft vars σ z new) (sym (take_more all i a l ∙ ap (λ z. take i all ++ z ∷ []) (sym e))) (step (take i all) h)

-- ---- the caller's atoms

-- they get the states that are read through what stands
pub updated_by : (σ : Substitution) (used : List ℕ) (posts atoms : List Atom) → update_atoms σ used posts atoms ≡ update_states used (states_of σ posts) atoms
updated_by σ [] posts atoms = refl
updated_by σ (n ∷ used) [] atoms = refl
updated_by σ (n ∷ used) (b ∷ posts) atoms = updated_by σ used posts (set_atom n (state_through σ b.state) atoms)

pub update_many : (σ : Substitution) (used : List ℕ) (posts atoms : List Atom) → length (update_atoms σ used posts atoms) ≡ length atoms
update_many σ [] posts atoms = refl
update_many σ (n ∷ used) [] atoms = refl
update_many σ (n ∷ used) (b ∷ posts) atoms = update_many σ used posts (set_atom n (state_through σ b.state) atoms) ∙ length_set_atom n (state_through σ b.state) atoms

pub states_many : (used : List ℕ) (states : List AtomState) (atoms : List Atom) → length (update_states used states atoms) ≡ length atoms
states_many [] states atoms = refl
states_many (n ∷ used) [] atoms = refl
states_many (n ∷ used) (s ∷ states) atoms = states_many used states (set_atom n s atoms) ∙ length_set_atom n s atoms

none_updated : (ns : List ℕ) (atoms : List Atom) → update_states ns [] atoms ≡ atoms
none_updated [] atoms = refl
none_updated (n ∷ ns) atoms = refl

pub all_updated : (ns : List ℕ) (states : List AtomState) (atoms all : List Atom) → states ≡ [] → update_states ns states atoms ≡ all → atoms ≡ all
all_updated ns states atoms all e h = sym (ap (λ z. update_states ns z atoms) e ∙ none_updated ns atoms) ∙ h
