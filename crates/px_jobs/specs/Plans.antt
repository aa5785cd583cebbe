-- What is known of the callees of a procedure, before it is analysed.
use Rattle.std.specs.Prelude.{◌≡◌, ◌↔◌, ℕ, ◌<◌, List, [], length, Bool, true, false, nat_eq, Option, Some, All, AllPairs, Any, slice_index_or}
use Rattle.std.specs.List.{list_any}
use Rattle.px_base.specs.declared.trace.ProcId.{ProcId}
use Rattle.px_entry.specs.declared.tables.Table.{Table}
use Rattle.px_callgraph.specs.declared.jobs.Callee.{Callee}
use Rattle.px_callgraph.specs.Callees.{IsCallee, AreTogether}
use Rattle.px_callgraph.specs.CallGraphs.{IsGraphOf}
use Rattle.px_symexec.specs.One.{Work, IsLeftOut, IsTabled, IsKnown}
use Rattle.px_pieces.specs.declared.findings.Part.{Part}
use Rattle.px_pieces.specs.Found.{tables_in}

-- the function is one of these
abbrev pub is_among : ℕ → List ProcId → Bool
is_among g functions = list_any (λ (f : ProcId). nat_eq f.0 g) functions

-- The graph is that of the work's bodies, and the flags say of each function that is called whether it is left out.
pub record IsPlan (w : Work) (callees : List (List ℕ)) (flags : List Bool) : Type 0 where
  pub graph : IsGraphOf w.bodies callees
  pub kept : length callees ≡ w.kept
  pub out : (f g : ℕ) → IsCallee w.bodies f g → (slice_index_or flags g false ≡ true) ↔ IsLeftOut w g

-- the tables of the procedures that have one so far
abbrev pub tables_at : List Part → ℕ → Option Table
tables_at parts = tables_in (record { parts = parts; events = [] })

-- what f calls outside its recursion component has its table, if it is to have one
abbrev pub IsReady : Work → List Part → ℕ → Type 0
IsReady w parts f = (g : ℕ) → IsCallee w.bodies f g → IsTabled w g → ¬ AreTogether w.bodies f g → (t : Table) × (tables_at parts g ≡ Some t)

-- what f calls, in the order of the numbers, each with what is known of it
pub record AreCallees (w : Work) (tables : ℕ → Option Table) (f : ℕ) (callees : List (ProcId × Callee)) : Type 0 where
  pub rising : AllPairs (λ (c d : ProcId × Callee). c.0.0 < d.0.0) callees
  pub all : (g : ℕ) → IsCallee w.bodies f g → Any (λ (c : ProcId × Callee). c.0.0 ≡ g) callees
  pub each : All (λ (c : ProcId × Callee). IsCallee w.bodies f c.0.0 × IsKnown w tables f c.0.0 c.1) callees
