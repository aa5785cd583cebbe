-- Blocks that a pointer is known to lead to, where the next command goes through it.
use Rattle.std.specs.Prelude.{◌≡◌, ◌≢◌, ◌⊎◌, ℕ, false, List, Contains, Some, None, slice_get}
use Rattle.px_terms.specs.declared.types.TypeId.{TypeId}
use Rattle.px_terms.specs.declared.variables.Var.{Var}
use Rattle.px_terms.specs.declared.variables.VarInfo.{VarInfo}
use Rattle.px_terms.specs.declared.conjuncts.Place.TheVariants as place
use Rattle.px_terms.specs.declared.conjuncts.Conj.{Conj}
use Rattle.px_terms.specs.declared.conjuncts.Conj.TheVariants.{SamePlace}
use Rattle.px_entry.specs.declared.atoms.Atom.{Atom}
use Rattle.px_entry.specs.Sorts.{is_made}
use Rattle.px_callgraph.specs.declared.states.State.{State}
use Rattle.px_callgraph.specs.declared.states.Way.{Way}
use Rattle.px_callgraph.specs.declared.states.Way.TheVariants as way
use Rattle.px_callgraph.specs.JobTree.{JobTree}
use Rattle.px_callgraph.specs.Alternatives.{Walk}
use Rattle.px_match.specs.PathLimits.{passes_grown}
use Rattle.px_explore.specs.declared.known.Known.{Known}
use Rattle.px_explore.specs.Said.{Says, IsNew, one_conjunct}

-- both variables stand for one place
abbrev pub same_places : Var → Var → Conj
same_places x y = SamePlace (place.Var x) (place.Var y)

-- by the way to a block that was met the pointer is taken to be its place
pub record GoesThrough (w : Walk) (x : Var) : Type 0 where
  pub says : (j : JobTree) (n : ℕ) (b : Atom) → slice_get w.state.atoms n ≡ Some b → IsNew w.state (same_places x b.place) → Says j w (way.Atom n) (same_places x b.place)

-- one of these blocks is of this type, and at this place
pub record IsAmong (atoms : List Atom) (y : Var) (t : TypeId) : Type 0 where
  pub number : ℕ
  pub atom : Atom
  pub atom_is : slice_get atoms number ≡ Some atom
  pub place_is : atom.place.0 ≡ y.0
  pub block_is : atom.block.0 ≡ t.0

-- such a block was met, and its place isn't made
pub record IsMetAt (s : State) (y : Var) (t : TypeId) : Type 0 where
  pub among : IsAmong s.atoms y t
  pub found : is_made s.vars y.0 ≡ false

-- by one of these conjuncts the pointer is the place of a block that was met
pub record IsAssumed (s : State) (pure : List Conj) (k : Known) : Type 0 where
  pub met : IsMetAt s k.place k.block
  pub same : Contains pure (same_places k.pointer k.place)

-- the pointer leads to a block that was met: it is its place, or is assumed to be
pub record LeadsTo (s : State) (k : Known) : Type 0 where
  pub met : IsMetAt s k.place k.block
  pub same : (k.pointer.0 ≡ k.place.0) ⊎ Contains s.pure (same_places k.pointer k.place)

-- the next command goes through the pointer, and no limit is passed where a conjunct is assumed
pub record IsKnown (w : Walk) (k : Known) : Type 0 where
  pub through : GoesThrough w k.pointer
  pub leads : LeadsTo w.state k
  pub room : passes_grown w.state one_conjunct ≡ None

-- another block of the type, whose place isn't made
abbrev pub IsOther : List VarInfo → Known → Atom → Type 0
IsOther vars k b = (b.place.0 ≢ k.pointer.0) × (b.place.0 ≢ k.place.0) × (b.block.0 ≡ k.block.0) × (is_made vars b.place.0 ≡ false)

-- the way leads to such a block
abbrev pub LeadsElsewhere : State → Known → Way → Type 0
LeadsElsewhere s k (way.Atom n) = (b : Atom) × (slice_get s.atoms n ≡ Some b) × IsOther s.vars k b
LeadsElsewhere s k _ = ⊥
