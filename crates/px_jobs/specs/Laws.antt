-- What the jobs of a procedure keep.
use Rattle.std.specs.Prelude.{◌≡◌, ℕ, Option}
use Rattle.px_entry.specs.declared.tables.Table.{Table}
use Rattle.px_callgraph.specs.JobTree.{JobTree}
use Rattle.px_callgraph.specs.Callees.{IsCallee, AreTogether}
use Rattle.px_symexec.specs.One.{Work, IsTabled, IsJob}

-- both have the same tables of what f calls outside its recursion component and is to have a table
abbrev pub AgreeBelow : Work → ℕ → (ℕ → Option Table) → (ℕ → Option Table) → Type 0
AgreeBelow w f a b = (g : ℕ) → IsCallee w.bodies f g → IsTabled w g → ¬ AreTogether w.bodies f g → a g ≡ b g

-- A job depends on those tables alone.
abbrev pub JobsStay : Type 0
JobsStay = (w : Work) (f : ℕ) (a b : ℕ → Option Table) → AgreeBelow w f a b → (j : JobTree) → IsJob w a f j → IsJob w b f j

-- A procedure has one job under a ticket.
abbrev pub SameJobs : Type 0
SameJobs = (w : Work) (f : ℕ) (tables : ℕ → Option Table) (i j : JobTree) → IsJob w tables f i → IsJob w tables f j → i.ticket ≡ j.ticket → i ≡ j
