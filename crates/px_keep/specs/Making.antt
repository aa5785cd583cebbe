-- How far the parts of a program are made, one after another.
use Rattle.std.specs.Prelude.{◌≡◌, ◌≢◌, ℕ, ◌<◌, ◌≤◌, Bool, false, List, length, Option, Some, slice_get, slice_index_or}
use Rattle.std.specs.List.{AllByRecursion}
use Rattle.px_base.specs.Bounds.{most_parameters}
use Rattle.px_core.specs.declared.body.Body.{Body}
use Rattle.px_entry.specs.declared.tables.Gap.{Gap}
use Rattle.px_entry.specs.declared.tables.Table.{Table}
use Rattle.px_callgraph.specs.CallGraphs.{bodies_in, IsGraphOf}
use Rattle.px_callgraph.specs.JobTree.{JobTree}
use Rattle.px_check.specs.declared.checked.Checked.{Checked}
use Rattle.px_symexec.specs.One.{Work, IsTabled}
use Rattle.px_pieces.specs.declared.findings.Part.{Part}
use Rattle.px_pieces.specs.declared.findings.Part.TheVariants.{Tabled, LeftOut}
use Rattle.px_jobs.specs.Plans.{IsReady, tables_at}
use Rattle.px_jobs.specs.Sources.{SourceParts, source_work}
use Rattle.px_findings.specs.declared.order.Turn.{Turn}
use Rattle.px_findings.specs.Making.{HasTable}
use Rattle.px_keep.specs.Reused.{IsPartOf}

-- a part that answers its job over the tables so far, or none yet
abbrev pub IsPartSoFar : (JobTree → Bool → List Checked → List Gap → Type 0) → Work → (ℕ → Option Table) → ℕ → Bool → Part → Type 0
IsPartSoFar Answers w tables n used (Tabled checked drops) = IsTabled w n × IsPartOf Answers w tables n used (Tabled checked drops)
IsPartSoFar Answers w tables n used LeftOut = used ≡ false

-- the first i of the order have their tables
abbrev pub HaveTables : List Turn → List Part → ℕ → Type 0
HaveTables order parts i = (k : ℕ) (d : Turn) → k < i → k < length order → HasTable parts (slice_index_or order k d).number

-- the first i of the order have their parts, which answer their jobs so, and the others not
pub record AreMade (Answers : JobTree → Bool → List Checked → List Gap → Type 0) (w : Work) (order : List Turn) (parts : List Part) (uses : List Bool) (i : ℕ) : Type 0 where
  pub size : length parts ≡ w.kept
  pub size_uses : length uses ≡ w.kept
  pub each : (n : ℕ) (x : Part) (b : Bool) → slice_get parts n ≡ Some x → slice_get uses n ≡ Some b → IsPartSoFar Answers w (tables_at parts) n b x
  pub done : HaveTables order parts i
  pub to_do : (k : ℕ) (d : Turn) → i ≤ k → k < length order → slice_get parts (slice_index_or order k d).number ≡ Some LeftOut

-- The procedures can be made in this order: each is to have a table and stands there once, after all that it calls below; and none is missing.
pub record IsOrder (w : Work) (order : List Turn) : Type 0 where
  pub tabled : (k : ℕ) (d : Turn) → k < length order → IsTabled w (slice_index_or order k d).number
  pub others : (i k : ℕ) (d : Turn) → i < k → k < length order → (slice_index_or order k d).number ≢ (slice_index_or order i d).number
  pub all : (n : ℕ) → IsTabled w n → (k : ℕ) × (d : Turn) × (k < length order) × ((slice_index_or order k d).number ≡ n)
  pub ready : (parts : List Part) (i : ℕ) (d : Turn) → i < length order → HaveTables order parts i → IsReady w parts (slice_index_or order i d).number

-- So many procedures are kept, with these bodies and this call graph, and they can be made in this order.
pub record CanBeMade (s : SourceParts) (graph : List (List ℕ)) (kept : ℕ) (order : List Turn) : Type 0 where
  pub all_called : length graph ≡ kept
  pub all_bodies : length s.bodies ≡ kept
  pub graph_is : IsGraphOf (bodies_in s.bodies) graph
  pub few : AllByRecursion (λ (b : Body). length b.parameters ≤ most_parameters) s.bodies
  pub ordered : IsOrder (source_work s kept) order
