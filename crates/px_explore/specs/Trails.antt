-- What the stack and the domains hold, and what they hold of a state of the search.
use Rattle.std.specs.Prelude.{◌≡◌, ℕ, List, [], ◌∷◌, ◌++◌, length, map}
use Rattle.px_terms.specs.declared.variables.VarInfo.{VarInfo}
use Rattle.px_terms.specs.declared.conjuncts.Conj.{Conj}
use Rattle.px_plain.specs.Held.{HeldItem, OfVar, OfConj, OfApart, held_vars}
use Rattle.px_plain.specs.Stacks.{Holds}
use Rattle.px_solver.specs.Pushed.{pushed_conjuncts}
use Rattle.px_entry.specs.declared.atoms.Atom.{Atom}
use Rattle.px_entry.specs.Constraint.{found_atoms}
use Rattle.px_callgraph.specs.declared.states.State.{State}
use Rattle.px_callgraph.specs.Laws.{HasPlaces}
use Rattle.px_explore.specs.declared.trail.Holder.{Holder}
use Rattle.px_explore.specs.declared.trail.Holder.TheVariants.{Alone, Everywhere}
use Rattle.px_explore.specs.declared.trail.Trail.{Trail}

-- ---- items, the last one first

-- their conjuncts, the first one first
abbrev pub conjuncts_in : List HeldItem → List Conj
conjuncts_in [] = []
conjuncts_in (OfVar i ∷ items) = conjuncts_in items
conjuncts_in (OfConj c ∷ items) = conjuncts_in items ++ c ∷ []
conjuncts_in (OfApart x ∷ items) = conjuncts_in items

-- their places apart, the first one first
abbrev pub places_in : List HeldItem → List ℕ
places_in [] = []
places_in (OfVar i ∷ items) = places_in items
places_in (OfConj c ∷ items) = places_in items
places_in (OfApart x ∷ items) = places_in items ++ x ∷ []

-- conjuncts are held by the domains too
abbrev pub holder : HeldItem → Holder
holder (OfVar i) = Alone
holder (OfConj c) = Everywhere
holder (OfApart x) = Alone

-- who holds each, the first one first
abbrev pub holders_of : List HeldItem → List Holder
holders_of [] = []
holders_of (i ∷ items) = holders_of items ++ holder i ∷ []

-- ---- what is held

-- the stack holds these items
pub record IsStacked (t : Trail) (items : List HeldItem) : Type 0 where
  pub stack : Holds t.stack items
  pub holders : t.holders.items ≡ holders_of items

-- and the domains, of which `domains` says what they hold, the conjuncts among them
pub record IsOn (t : Trail) (domains : List Conj → Type 0) (items : List HeldItem) : Type 0 where
  pub stacked : IsStacked t items
  pub conjuncts : domains (pushed_conjuncts items)

-- both hold the same
abbrev pub IsKept : Trail → (List Conj → Type 0) → Type 0
IsKept t domains = (items : List HeldItem) × IsOn t domains items

-- ---- what is put on

-- upon these items there are others: variables, conjuncts and places apart, each in this order
pub record AreUpon (items all : List HeldItem) (vars : List VarInfo) (pure : List Conj) (places : List ℕ) : Type 0 where
  pub above : List HeldItem
  pub all_is : all ≡ above ++ items
  pub vars_are : held_vars all ≡ held_vars items ++ vars
  pub pure_is : conjuncts_in all ≡ conjuncts_in items ++ pure
  pub places_are : places_in all ≡ places_in items ++ places

-- these are put upon whatever the stack held
abbrev pub Stacks : Trail → Trail → List VarInfo → List ℕ → Type 0
Stacks old new vars places = (items : List HeldItem) → IsStacked old items → (all : List HeldItem) × IsStacked new all × AreUpon items all vars [] places

-- these conjuncts are put upon whatever all held
abbrev pub PutsOn : Trail → (List Conj → Type 0) → Trail → (List Conj → Type 0) → List Conj → Type 0
PutsOn old before new after pure = (items : List HeldItem) → IsOn old before items → (all : List HeldItem) × IsOn new after all × AreUpon items all [] pure []

-- ---- of a state

-- the places of blocks, of those that aren't made
abbrev pub places_of : List Atom → List ℕ
places_of atoms = map (λ (a : Atom). a.place.0) atoms

abbrev pub found_places : List VarInfo → List Atom → List ℕ
found_places vars atoms = places_of (found_atoms vars atoms)

-- the items are what the state assumes: its variables, its conjuncts, and that its blocks are apart
pub record AreOf (s : State) (items : List HeldItem) : Type 0 where
  pub vars : held_vars items ≡ s.vars
  pub pure : conjuncts_in items ≡ s.pure
  pub places : places_in items ≡ found_places s.vars s.atoms

-- what a state has, the other has too, but the states of blocks
pub record IsAfter (s t : State) : Type 0 where
  pub vars : (more : List VarInfo) × (t.vars ≡ s.vars ++ more)
  pub pure : (more : List Conj) × (t.pure ≡ s.pure ++ more)
  pub places : (more : List ℕ) × (places_of t.atoms ≡ places_of s.atoms ++ more)

-- of nothing nothing is assumed
abbrev pub nothing : State
nothing = record { slots = []; vars = []; pure = []; pre = []; atoms = []; trace = []; loops = []; steps = 0 }

-- all hold what a state assumes, and how much that is
pub record IsAt (t : Trail) (domains : List Conj → Type 0) (s : State) (items : List HeldItem) : Type 0 where
  pub on : IsOn t domains items
  pub of : AreOf s items
  pub vars : t.vars ≡ length s.vars
  pub pure : t.pure ≡ length s.pure
  pub atoms : t.atoms ≡ length s.atoms
  pub places : HasPlaces s

-- upon whatever they held of an earlier state they hold what this state assumes
abbrev pub Reaches : Trail → (List Conj → Type 0) → Trail → (List Conj → Type 0) → State → Type 0
Reaches old before new after t =
    (s : State) (items : List HeldItem) → IsAt old before s items → IsAfter s t → (above : List HeldItem) × IsOn new after (above ++ items) × AreOf t (above ++ items)

-- they hold what an earlier state assumes
abbrev pub IsBehind : Trail → (List Conj → Type 0) → State → Type 0
IsBehind trail domains t = (s : State) × (items : List HeldItem) × IsAt trail domains s items × IsAfter s t
