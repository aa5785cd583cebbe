-- What the solver's answer makes of a stop.
use Rattle.std.specs.Prelude.{◌≡◌, ℕ, Bool, true, List, ◌++◌, ⊤}
use Rattle.std.specs.List.{list_all}
use Rattle.px_terms.specs.declared.types.ValueType.TheVariants.{Pointer}
use Rattle.px_terms.specs.declared.variables.VarInfo.{VarInfo}
use Rattle.px_terms.specs.declared.conjuncts.Conj.{Conj}
use Rattle.px_plain.specs.Held.{HeldItem}
use Rattle.px_entry.specs.declared.atoms.Atom.{Atom}
use Rattle.px_entry.specs.Sorts.{has_type}
use Rattle.px_callgraph.specs.declared.states.State.{State}
use Rattle.px_callgraph.specs.JobTree.{JobTree}
use Rattle.px_symexec.specs.Tables.{IsLive, ended_case, Row, Nothing, Gives, Misses, IsRow}
use Rattle.px_explore.specs.declared.stops.Stop.{Stop}
use Rattle.px_explore.specs.declared.stops.Stop.TheVariants as S
use Rattle.px_explore.specs.declared.weigh.Weighed.{Weighed}
use Rattle.px_explore.specs.declared.weigh.Weighed.TheVariants as W
use Rattle.px_explore.specs.declared.trail.Trail.{Trail}
use Rattle.px_explore.specs.Stops.{prefix_of}
use Rattle.px_explore.specs.Trails.{IsOn, AreOf, IsAfter, IsAt}

-- it has no extensions
abbrev pub IsLast : Stop → Type 0
IsLast (S.Dead s) = ⊤
IsLast (S.Choice f) = ⊥
IsLast (S.Ended s exit result) = ⊤
IsLast (S.Dropped s gap) = ⊤
IsLast (S.Past s) = ⊤

-- a live prefix with its row, which is so many ended cases
pub record IsLiveAs (j : JobTree) (stop : Stop) (row : Row) (cases : ℕ) : Type 0 where
  pub live : IsLive j.kinds (prefix_of stop)
  pub row_is : IsRow j (prefix_of stop) row
  pub cases_are : ended_case (prefix_of stop) ≡ cases

abbrev pub IsWeighed : JobTree → Stop → Weighed → Type 0
IsWeighed j stop W.Out = ¬ IsLive j.kinds (prefix_of stop)
IsWeighed j stop (W.Open f) = (stop ≡ S.Choice f) × IsLiveAs j stop Nothing 0
IsWeighed j stop W.Past = IsLast stop × IsLiveAs j stop Nothing 0
IsWeighed j stop (W.Gives x) = IsLast stop × IsLiveAs j stop (Gives x) 1
IsWeighed j stop (W.Misses gap) = IsLast stop × IsLiveAs j stop (Misses gap) 1

-- what is taken up of it
abbrev pub row_of : Weighed → Row
row_of W.Out = Nothing
row_of (W.Open f) = Nothing
row_of W.Past = Nothing
row_of (W.Gives x) = Gives x
row_of (W.Misses gap) = Misses gap

abbrev pub cases_of : Weighed → ℕ
cases_of W.Out = 0
cases_of (W.Open f) = 0
cases_of W.Past = 0
cases_of (W.Gives x) = 1
cases_of (W.Misses gap) = 1

abbrev pub IsOut : Weighed → Type 0
IsOut W.Out = ⊤
IsOut (W.Open f) = ⊥
IsOut W.Past = ⊥
IsOut (W.Gives x) = ⊥
IsOut (W.Misses gap) = ⊥

-- ---- what is held

-- the place of the block is that of a pointer to blocks of its type
abbrev pub is_placed : List VarInfo → Atom → Bool
is_placed vars a = has_type vars (Pointer a.block) a.place.0

-- so are those of all blocks
abbrev pub ArePlaced : State → Type 0
ArePlaced s = list_all (is_placed s.vars) s.atoms ≡ true

-- where it is open, the items are what its state assumes
abbrev pub IsOpenAt : Weighed → List HeldItem → Type 0
IsOpenAt W.Out items = ⊤
IsOpenAt (W.Open f) items = AreOf f.walk.state items
IsOpenAt W.Past items = ⊤
IsOpenAt (W.Gives x) items = ⊤
IsOpenAt (W.Misses gap) items = ⊤

-- upon whatever was held of an earlier state more is held, and this is what an open one assumes
abbrev pub WeighsOn : Trail → (List Conj → Type 0) → Trail → (List Conj → Type 0) → State → Weighed → Type 0
WeighsOn old before new after t w =
    (s : State) (items : List HeldItem) → IsAt old before s items → IsAfter s t → (above : List HeldItem) × IsOn new after (above ++ items) × IsOpenAt w (above ++ items)
