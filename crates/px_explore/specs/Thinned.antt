-- Points of choice without the ways that lead to nothing live.
use Rattle.std.specs.Prelude.{◌≡◌, ◌⊎◌, ℕ, Bool, true, false, List, [], ◌∷◌, ◌++◌, All, Contains, ⊤}
use Rattle.px_terms.specs.declared.conjuncts.Conj.{Conj}
use Rattle.px_terms.specs.declared.conjuncts.Conj.TheVariants.{Equal, Unequal, Less, AtMost, SamePlace, OtherPlace, Written, Unwritten, Quotient}
use Rattle.px_solver.specs.Decisions.{IsRefuted}
use Rattle.px_entry.specs.Constraint.{constraint_of}
use Rattle.px_callgraph.specs.declared.states.State.{State}
use Rattle.px_callgraph.specs.declared.states.Way.{Way}
use Rattle.px_callgraph.specs.JobTree.{JobTree}
use Rattle.px_callgraph.specs.Alternatives.{Walk, ways, act}
use Rattle.px_callgraph.specs.ActsLeft.{state_of}
use Rattle.px_callgraph.specs.Laws.{IsReached, HasPlaces}
use Rattle.px_walks.specs.Walks.{walk_of}
use Rattle.px_symexec.specs.Prefixes.{constraint}
use Rattle.px_symexec.specs.Tables.{IsOpenState}
use Rattle.px_explore.specs.declared.stops.Fork.{Fork}
use Rattle.px_explore.specs.declared.weigh.Weighed.{Weighed}
use Rattle.px_explore.specs.declared.weigh.Weighed.TheVariants as W
use Rattle.px_explore.specs.Stops.{IsFork}

-- the second list has the items of the first, in order, but for some that are gone
abbrev pub Thins : {A : Type 0} → (A → Type 0) → List A → List A → Type 0
Thins Gone [] ys = ys ≡ []
Thins {A} Gone (x ∷ xs) ys = ((rest : List A) × (ys ≡ x ∷ rest) × Thins Gone xs rest) ⊎ (Gone x × Thins Gone xs ys)

-- where the way leads is refuted
abbrev pub IsShut : JobTree → Walk → Way → Type 0
IsShut j w name = IsRefuted (state_of (act j w name)).vars (constraint (state_of (act j w name))) j.kinds

-- the second has the ways of the first that aren't shut
pub record IsThinned (j : JobTree) (f g : Fork) : Type 0 where
  pub walk : g.walk ≡ f.walk
  pub steps : g.steps ≡ f.steps
  pub ways : Thins (IsShut j (walk_of f.walk)) f.ways.items g.ways.items

-- an open point of choice, thinned
abbrev pub IsThinnedTo : JobTree → Weighed → Weighed → Type 0
IsThinnedTo j W.Out w = w ≡ W.Out
IsThinnedTo j (W.Open f) w = (g : Fork) × (w ≡ W.Open g) × IsThinned j f g
IsThinnedTo j W.Past w = w ≡ W.Past
IsThinnedTo j (W.Gives x) w = w ≡ W.Gives x
IsThinnedTo j (W.Misses gap) w = w ≡ W.Misses gap

-- a point of choice of which what is assumed isn't refuted
pub record IsLiveFork (j : JobTree) (f : Fork) : Type 0 where
  pub fork : IsFork j f
  pub live : IsOpenState j.kinds f.walk.state

-- an open one is such a point of choice
abbrev pub IsOpenFork : JobTree → Weighed → Type 0
IsOpenFork j W.Out = ⊤
IsOpenFork j (W.Open f) = IsLiveFork j f
IsOpenFork j W.Past = ⊤
IsOpenFork j (W.Gives x) = ⊤
IsOpenFork j (W.Misses gap) = ⊤

-- a point of choice that is reached, with ways that are listed there
pub record IsLeft (j : JobTree) (f : Fork) : Type 0 where
  pub reached : IsReached j (walk_of f.walk)
  pub listed : All (λ name. Contains (ways j (walk_of f.walk)) name) f.ways.items

-- ---- what is asked

-- what a state assumes isn't refuted, and the places of its blocks are variables of its list
pub record MayBeThinned (j : JobTree) (s : State) : Type 0 where
  pub places : HasPlaces s
  pub live : IsOpenState j.kinds s

-- what a state assumes is refuted with this conjunct
abbrev pub IsRefutedWith : State → Conj → List ℕ → Type 0
IsRefutedWith s c kinds = IsRefuted s.vars (constraint_of s.vars (s.pure ++ c ∷ []) s.atoms) kinds

-- a conjunct that is of places, or says whether a cell is written
abbrev pub is_of_cells : Conj → Bool
is_of_cells (Equal p) = false
is_of_cells (Unequal p) = false
is_of_cells (Less p q) = false
is_of_cells (AtMost p q) = false
is_of_cells (SamePlace a b) = true
is_of_cells (OtherPlace a b) = true
is_of_cells (Written x) = true
is_of_cells (Unwritten x) = true
is_of_cells (Quotient x p q) = false
