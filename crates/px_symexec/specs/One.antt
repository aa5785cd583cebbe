-- What one process makes of a program: the tables of its procedures, each from those of its callees.
use Rattle.std.specs.Prelude.{◌≡◌, ℕ, ◌<◌, List, Option, Some, None, All, AllPairs, Any}
use Rattle.px_base.specs.LimitNumbers.{LimitNumbers}
use Rattle.px_base.specs.declared.trace.ProcId.{ProcId}
use Rattle.px_terms.specs.declared.types.BlockType.{BlockType}
use Rattle.px_core.specs.BodyTree.{BodyTree}
use Rattle.px_entry.specs.declared.tables.Table.{Table}
use Rattle.px_callgraph.specs.declared.jobs.Callee.{Callee}
use Rattle.px_callgraph.specs.declared.jobs.Callee.TheVariants as callee
use Rattle.px_callgraph.specs.JobTree.{JobTree}
use Rattle.px_callgraph.specs.Callees.{IsCallee, AreTogether}
use Rattle.px_symexec.specs.Tables.{IsTable}

-- what is to be analysed: the bodies of the procedures, how many are kept, and those that are left out, which are
-- the kept ones that are too large and the functions that aren't kept; a procedure that is too large has no body
pub record Work : Type 0 where
  pub bodies : ℕ → Option BodyTree
  pub kept : ℕ
  pub out : List ProcId
  pub types : List BlockType
  pub limits : LimitNumbers
  pub kinds : List ℕ

abbrev pub IsLeftOut : Work → ℕ → Type 0
IsLeftOut w f = Any (λ (p : ProcId). p.0 ≡ f) w.out

-- a procedure is kept and not left out
abbrev pub IsTabled : Work → ℕ → Type 0
IsTabled w f = (f < w.kept) × (¬ IsLeftOut w f)

-- what its caller f knows of g, where the procedures have these tables
abbrev pub IsKnown : Work → (ℕ → Option Table) → ℕ → ℕ → Callee → Type 0
IsKnown w tables f g (callee.Table t) = IsTabled w g × (¬ AreTogether w.bodies f g) × (tables g ≡ Some t)
IsKnown w tables f g callee.Cycle = IsTabled w g × AreTogether w.bodies f g
IsKnown w tables f g callee.LeftOut = IsLeftOut w g
IsKnown w tables f g callee.Unknown = (¬ (g < w.kept)) × (¬ IsLeftOut w g)

-- the job of a procedure, with what it calls in the order of the numbers
pub record IsJob (w : Work) (tables : ℕ → Option Table) (f : ℕ) (j : JobTree) : Type 0 where
  pub proc : j.proc.0 ≡ f
  pub body : w.bodies f ≡ Some j.body
  pub types : j.types ≡ w.types
  pub limits : j.limits ≡ w.limits
  pub kinds : j.kinds ≡ w.kinds
  pub rising : AllPairs (λ (c d : ProcId × Callee). c.0.0 < d.0.0) j.callees
  pub all : (g : ℕ) → IsCallee w.bodies f g → Any (λ (c : ProcId × Callee). c.0.0 ≡ g) j.callees
  pub each : All (λ (c : ProcId × Callee). IsCallee w.bodies f c.0.0 × IsKnown w tables f c.0.0 c.1) j.callees

-- the table of the procedure's job, or none where it is left out or not kept
abbrev pub IsTableIn : Work → (ℕ → Option Table) → ℕ → Option Table → Type 0
IsTableIn w tables f None = ¬ IsTabled w f
IsTableIn w tables f (Some t) = IsTabled w f × (j : JobTree) × IsJob w tables f j × IsTable j t

-- These are the tables that one process makes.
abbrev pub IsOne : Work → (ℕ → Option Table) → Type 0
IsOne w tables = (f : ℕ) → IsTableIn w tables f (tables f)

-- One process makes one list of tables.
abbrev pub OneProcess : Type 0
OneProcess = (w : Work) (a b : ℕ → Option Table) → IsOne w a → IsOne w b → (f : ℕ) → a f ≡ b f
