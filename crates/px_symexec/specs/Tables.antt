-- The table of a job.
use Rattle.std.specs.Prelude.{◌≡◌, ◌⊎◌, ℕ, ◌+◌, ◌<◌, ◌≤◌, List, [], ◌∷◌, ◌++◌, length, flat_map, sum_by, Option}
use Rattle.px_terms.specs.declared.types.Value.{Value}
use Rattle.px_terms.specs.declared.conjuncts.Content.{Content}
use Rattle.px_terms.specs.declared.conjuncts.Conj.{Conj}
use Rattle.px_entry.specs.declared.entries.Entry.{Entry}
use Rattle.px_entry.specs.declared.entries.Exit.{Exit}
use Rattle.px_entry.specs.declared.tables.Gap.{Gap}
use Rattle.px_entry.specs.declared.tables.Table.{Table}
use Rattle.px_entry.specs.declared.tables.Cause.{Cause}
use Rattle.px_entry.specs.declared.tables.Cause.TheVariants as cause
use Rattle.px_solver.specs.Decisions.{IsRefuted, IsDecided}
use Rattle.px_solver.specs.declared.decision.Decision.TheVariants.{Found, Undecided}
use Rattle.px_callgraph.specs.declared.states.State.{State}
use Rattle.px_callgraph.specs.JobTree.{JobTree}
use Rattle.px_symexec.specs.Prefixes.{Prefix, Dead, Choice, Ended, Dropped, Past, constraint, prefixes_of}

-- ---- live prefixes

-- the constraint of a state isn't refuted
abbrev pub IsOpenState : List ℕ → State → Type 0
IsOpenState kinds s = ¬ IsRefuted s.vars (constraint s) kinds

-- a prefix is live where it isn't dead, and its constraint, where it stops, isn't refuted
abbrev pub IsLive : List ℕ → Prefix → Type 0
IsLive kinds (Dead s) = ⊥
IsLive kinds (Choice s) = IsOpenState kinds s
IsLive kinds (Ended s exit result) = IsOpenState kinds s
IsLive kinds (Dropped s gap) = IsOpenState kinds s
IsLive kinds (Past s) = IsOpenState kinds s

-- the second list has the items of the first of which P holds, in order
abbrev pub Selects : {A : Type 0} → (A → Type 0) → List A → List A → Type 0
Selects P [] ys = ys ≡ []
Selects {A} P (x ∷ xs) ys = (P x × (rest : List A) × (ys ≡ x ∷ rest) × Selects P xs rest) ⊎ ((¬ P x) × Selects P xs ys)

-- one for an ended case, which is an entry or a drop
abbrev pub ended_case : Prefix → ℕ
ended_case (Dead s) = 0
ended_case (Choice s) = 0
ended_case (Ended s exit result) = 1
ended_case (Dropped s gap) = 1
ended_case (Past s) = 0

abbrev pub ended_cases : List Prefix → ℕ
ended_cases ps = sum_by ended_case ps

-- ---- what they give

-- what a live prefix gives: nothing, an entry, or a drop
pub data Row : Type 0 where
  Nothing : Row
  Gives : Entry → Row
  Misses : Gap → Row

-- the entry of a path that ends so, with these values of its variables
abbrev pub entry_of : JobTree → State → Exit → Option Content → List Value → Entry
entry_of j s exit result model = record {
  proc = j.proc;
  trace = s.trace;
  exit = exit;
  result = result;
  vars = s.vars;
  pure = s.pure;
  pre = s.pre;
  post = s.atoms;
  model = model;
}

abbrev pub undecided : State → List Conj → Gap
undecided s hard = record { trace = s.trace; cause = cause.Undecided hard }

-- An end whose constraint is found is an entry with the values that are found. One whose constraint is undecided
-- is a drop with the conjuncts that are too hard.
abbrev pub IsRow : JobTree → Prefix → Row → Type 0
IsRow j (Dead s) r = ⊥
IsRow j (Choice s) r = r ≡ Nothing
IsRow j (Past s) r = r ≡ Nothing
IsRow j (Dropped s gap) r = r ≡ Misses gap
IsRow j (Ended s exit result) r =
    ((model : List Value) × IsDecided s.vars (constraint s) j.kinds (Found model) × (r ≡ Gives (entry_of j s exit result model)))
    ⊎ ((hard : List Conj) × IsDecided s.vars (constraint s) j.kinds (Undecided hard) × (r ≡ Misses (undecided s hard)))

-- the rows of the prefixes, in order
abbrev pub AreRows : JobTree → List Prefix → List Row → Type 0
AreRows j [] rs = rs ≡ []
AreRows j (p ∷ ps) rs = (r : Row) × (rest : List Row) × (rs ≡ r ∷ rest) × IsRow j p r × AreRows j ps rest

abbrev pub entries_in : Row → List Entry
entries_in Nothing = []
entries_in (Gives x) = x ∷ []
entries_in (Misses gap) = []

abbrev pub drops_in : Row → List Gap
drops_in Nothing = []
drops_in (Gives x) = []
drops_in (Misses gap) = gap ∷ []

-- ---- the end

-- After these live prefixes, the number of the next is above the nodes; or it isn't, and the next is an ended
-- case after as many others as the paths. The cause says which.
abbrev pub IsEnd : JobTree → List Prefix → Prefix → Cause → Type 0
IsEnd j live p why =
    ((j.limits.nodes ≤ length live) × (why ≡ cause.Nodes j.limits.nodes))
    ⊎ ((length live < j.limits.nodes) × (ended_case p ≡ 1) × (j.limits.paths ≤ ended_cases live) × (why ≡ cause.Paths j.limits.paths))

-- what a table says last of all: nothing after all prefixes; at the end, which is live, its cause, of every trace
abbrev pub Stops : JobTree → List Prefix → List Prefix → List Gap → Type 0
Stops j live [] last = last ≡ []
Stops j live (p ∷ rest) last = IsLive j.kinds p × (why : Cause) × IsEnd j live p why × (last ≡ record { trace = []; cause = why } ∷ [])

-- ---- the table

-- the live ones among the prefixes before the end, and what they give
pub record Walked (j : JobTree) (before live : List Prefix) (entries : List Entry) (drops : List Gap) : Type 0 where
  pub selects : Selects (IsLive j.kinds) before live
  -- none of them is the end
  pub few : length live ≤ j.limits.nodes
  pub few_ended : ended_cases live ≤ j.limits.paths
  pub rows : List Row
  pub are_rows : AreRows j live rows
  pub entries_are : entries ≡ flat_map entries_in rows
  pub drops_are : drops ≡ flat_map drops_in rows

-- The table of a job: the entries and drops of its live prefixes before the end, in order, and at last a drop
-- that says why there is an end, if there is one.
pub record IsTable (j : JobTree) (table : Table) : Type 0 where
  pub before : List Prefix
  pub rest : List Prefix
  pub split : prefixes_of j ≡ before ++ rest
  pub live : List Prefix
  pub met : List Gap
  pub walked : Walked j before live table.entries met
  pub last : List Gap
  pub stops : Stops j live rest last
  pub drops_are : table.drops ≡ met ++ last

-- so many live prefixes are numbered, and the end is one of them
abbrev pub HasLivePrefixes : JobTree → ℕ → Type 0
HasLivePrefixes j n = (table : Table) × (t : IsTable j table) × (n ≡ length t.live + length t.last)
