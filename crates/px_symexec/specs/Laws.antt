-- What the prefixes of a job are, and what its table says.
use Rattle.std.specs.Prelude.{◌≡◌, ◌⊎◌, ◌≤◌, ℕ, List, [], ◌∷◌, ◌++◌, map, Some, All, Contains, AllPairs, ⊤}
use Rattle.px_terms.specs.declared.types.Value.{Value}
use Rattle.px_terms.specs.declared.conjuncts.Conj.{Conj}
use Rattle.px_entry.specs.declared.tables.Gap.{Gap}
use Rattle.px_entry.specs.declared.tables.Table.{Table}
use Rattle.px_entry.specs.declared.tables.Cause.{Cause}
use Rattle.px_entry.specs.declared.tables.Cause.TheVariants as cause
use Rattle.px_solver.specs.Decisions.{IsRefuted}
use Rattle.px_callgraph.specs.JobTree.{JobTree}
use Rattle.px_callgraph.specs.declared.outcomes.StepOutcome.TheVariants.{Next}
use Rattle.px_callgraph.specs.Alternatives.{Walk, Leads, ways, act}
use Rattle.px_callgraph.specs.ActsLeft.{acts_left_of}
use Rattle.px_callgraph.specs.Laws.{IsReached}
use Rattle.px_symexec.specs.Prefixes.{Prefix, Dead, Choice, Ended, Dropped, Past, constraint, from_listed, prefixes_within, prefixes, prefixes_of}
use Rattle.px_symexec.specs.Cases.{case_of, IsEarlier}
use Rattle.px_symexec.specs.Tables.{IsLive, entry_of, undecided, IsTable, HasLivePrefixes}

-- ---- prefixes

-- The prefixes that go on from a place of a path, by what is listed there.
abbrev pub PrefixesNext : Type 0
PrefixesNext = (j : JobTree) (w : Walk) → prefixes j (Next w) ≡ from_listed w.state (ways j w) (λ name. prefixes j (act j w name))

-- More acts than are left change nothing: no prefix is dead for want of acts.
abbrev pub ActsSuffice : Type 0
ActsSuffice = (n : ℕ) (j : JobTree) (a : Leads) → acts_left_of j a ≤ n → prefixes_within n j a ≡ prefixes j a

-- The prefixes are those of all lists of choices that are prefixes, in lexicographic order, each before its extensions.
abbrev pub PrefixesAreCases : Type 0
PrefixesAreCases =
    (j : JobTree) → (cs : List (List ℕ)) × AllPairs IsEarlier cs × (map (case_of j) cs ≡ map Some (prefixes_of j))
    × ((c : List ℕ) (p : Prefix) → case_of j c ≡ Some p → Contains cs c)

-- After a place that is reached, and whose constraint is refuted, no prefix is live.
abbrev pub RefutedStaysOut : Type 0
RefutedStaysOut = (j : JobTree) (w : Walk) → IsReached j w → IsRefuted w.state.vars (constraint w.state) j.kinds → All (λ p. ¬ IsLive j.kinds p) (prefixes j (Next w))

-- ---- tables

-- A job has one table, and one number of live prefixes.
pub record OneTable : Type 0 where
  pub tables : (j : JobTree) (t u : Table) → IsTable j t → IsTable j u → t ≡ u
  pub numbers : (j : JobTree) (m n : ℕ) → HasLivePrefixes j m → HasLivePrefixes j n → m ≡ n

abbrev pub with_ticket : ℕ → JobTree → JobTree
with_ticket n j = record j { ticket = n }

-- The table doesn't depend on the job's ticket.
abbrev pub TablesHaveNoTicket : Type 0
TablesHaveNoTicket = (j : JobTree) (n : ℕ) (t : Table) → IsTable j t → IsTable (with_ticket n j) t

-- a path that ends is an entry with some values, or a drop that is undecided; a path that is dropped is a drop
abbrev pub IsShown : JobTree → Table → Prefix → Type 0
IsShown j t (Dead s) = ⊤
IsShown j t (Choice s) = ⊤
IsShown j t (Ended s exit result) =
    ((model : List Value) × Contains t.entries (entry_of j s exit result model)) ⊎ ((hard : List Conj) × Contains t.drops (undecided s hard))
IsShown j t (Dropped s gap) = Contains t.drops gap
IsShown j t (Past s) = ⊤

-- the last drop says, of every trace, that the nodes or the paths are spent
abbrev pub IsSpent : JobTree → Table → Type 0
IsSpent j t =
    (before : List Gap) × (why : Cause) × ((why ≡ cause.Nodes j.limits.nodes) ⊎ (why ≡ cause.Paths j.limits.paths))
    × (t.drops ≡ before ++ record { trace = []; cause = why } ∷ [])

-- The table of a job shows each live prefix, or a budget is spent.
abbrev pub PrefixesAreShown : Type 0
PrefixesAreShown = (j : JobTree) (t : Table) → IsTable j t → (p : Prefix) → Contains (prefixes_of j) p → IsLive j.kinds p → IsShown j t p ⊎ IsSpent j t
