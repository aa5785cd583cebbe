-- How far the parts of a program are made.
use Rattle.std.specs.Prelude.{◌≡◌, ◌≢◌, ℕ, ◌<◌, ◌≤◌, List, length, Option, Some, option_map, slice_get, slice_index_or, ⊤}
use Rattle.px_base.specs.Bounds.{most_parameters}
use Rattle.px_core.specs.declared.body.Body.{Body}
use Rattle.px_core.specs.BodyTree.{BodyTree, body_tree}
use Rattle.px_entry.specs.declared.tables.Table.{Table}
use Rattle.px_symexec.specs.One.{Work, IsTabled}
use Rattle.px_pieces.specs.declared.findings.Part.{Part}
use Rattle.px_pieces.specs.declared.findings.Part.TheVariants.{Tabled, LeftOut}
use Rattle.px_jobs.specs.Plans.{IsPlan, IsReady, tables_at}
use Rattle.px_findings.specs.declared.order.Turn.{Turn}
use Rattle.px_findings.specs.declared.plan.Plan.{Plan}
use Rattle.px_findings.specs.declared.progress.Progress.{Progress}
use Rattle.px_findings.specs.Jobs.{IsShared, IsPartOf}
use Rattle.px_findings.specs.Analyses.{AreBeside}

-- a part is a table of the procedure's job over the tables so far, or none yet
abbrev pub IsPartSoFar : Work → (ℕ → Option Table) → ℕ → Part → Type 0
IsPartSoFar w tables n (Tabled checked drops) = IsTabled w n × IsPartOf w tables n (Tabled checked drops)
IsPartSoFar w tables n LeftOut = ⊤

-- its body is there, and no part
pub record IsToDo (w : Work) (bodies : List Body) (parts : List Part) (n : ℕ) : Type 0 where
  pub part : slice_get parts n ≡ Some LeftOut
  pub body : w.bodies n ≡ option_map body_tree (slice_get bodies n)

abbrev pub HasTable : List Part → ℕ → Type 0
HasTable parts n = (t : Table) × (tables_at parts n ≡ Some t)

-- the first i of the order have their parts, the others not
pub record AreMade (w : Work) (order : List Turn) (bodies : List Body) (parts : List Part) (i : ℕ) : Type 0 where
  pub size : length parts ≡ w.kept
  pub size_bodies : length bodies ≡ w.kept
  pub each : (n : ℕ) (x : Part) → slice_get parts n ≡ Some x → IsPartSoFar w (tables_at parts) n x
  pub done : (k : ℕ) (d : Turn) → k < i → k < length order → HasTable parts (slice_index_or order k d).number
  pub to_do : (k : ℕ) (d : Turn) → i ≤ k → k < length order → IsToDo w bodies parts (slice_index_or order k d).number

-- The procedures can be made in this order: each is to have a table and stands there once, after all that it calls below.
pub record IsOrder (w : Work) (order : List Turn) : Type 0 where
  pub tabled : (k : ℕ) (d : Turn) → k < length order → IsTabled w (slice_index_or order k d).number
  pub others : (i k : ℕ) (d : Turn) → i < k → k < length order → (slice_index_or order k d).number ≢ (slice_index_or order i d).number
  pub ready : (bodies : List Body) (parts : List Part) (i : ℕ) (d : Turn) → AreMade w order bodies parts i → i < length order →
      IsReady w parts (slice_index_or order i d).number

-- the work's parts are made up to a place of the order
pub record AreUnderWay (w : Work) (p : Plan) (order : List Turn) (m : Progress) (i : ℕ) : Type 0 where
  pub plan : IsPlan w p.graph p.out.items
  pub ordered : IsOrder w order
  pub shared : IsShared w m.shared
  pub few : (n : ℕ) (b : BodyTree) → w.bodies n ≡ Some b → length b.parameters ≤ most_parameters
  pub made : AreMade w order m.bodies.items m.parts.items i
  pub beside : AreBeside w (tables_at m.parts.items) m.parts.items m.explorations.items
