-- A book of a program's procedures, as plain data, and what claims, publications and losses do to it.
use Rattle.std.specs.Prelude.{◌≡◌, ℕ, List, [], ◌∷◌, ◌++◌, length, Option, Some, None, slice_set, replicate}
use Rattle.px_callgraph.specs.declared.jobs.Job.{Job}
use Rattle.px_callgraph.specs.JobTree.{JobTree, job_tree}
use Rattle.px_callgraph.specs.CallGraphs.{bodies_in}
use Rattle.px_symexec.specs.One.{Work, IsJob}
use Rattle.px_pieces.specs.declared.desk.Who.{Who}
use Rattle.px_pieces.specs.declared.desk.Event.{Event}
use Rattle.px_pieces.specs.declared.desk.Event.TheVariants.{Claim, Publish}
use Rattle.px_pieces.specs.declared.findings.Part.{Part}
use Rattle.px_pieces.specs.declared.findings.Part.TheVariants.{Tabled, LeftOut}
use Rattle.px_pieces.specs.Desk.{Desk, Statuses, IsHeldUnder, IsClaimable, MayCome}
use Rattle.px_pieces.specs.Pieces.{PieceParts}
use Rattle.px_book.specs.Rolls.{RollParts, desk_of, statuses_of}
use Rattle.px_jobs.specs.Plans.{tables_at}
use Rattle.px_jobs.specs.Sources.{SourceParts, source_work}

-- what the procedures' jobs are made of, what the procedures call, what happened so far, and what is known of each
-- kept procedure
pub record BookParts : Type 0 where
  pub sources : SourceParts
  pub graph : List (List ℕ)
  pub history : List Event
  pub parts : List Part

-- nothing happened yet, and no procedure has a table
abbrev pub new_book : SourceParts → List (List ℕ) → BookParts
new_book sources graph = record { sources = sources; graph = graph; history = []; parts = replicate (length graph) LeftOut }

-- what is to be analysed
abbrev pub work_in : BookParts → Work
work_in b = source_work b.sources (length b.graph)

-- the roll of its procedures
abbrev pub roll_in : BookParts → RollParts
roll_in b = record { graph = b.graph; out = b.sources.out; history = b.history }

-- their desk
abbrev pub its_desk : BookParts → Desk
its_desk b = desk_of (bodies_in b.sources.bodies) (roll_in b)

-- where they stand now
abbrev pub statuses_in : BookParts → Statuses
statuses_in b = statuses_of (roll_in b)

-- after one event more
abbrev pub with_event : BookParts → Event → BookParts
with_event b e = record { sources = b.sources; graph = b.graph; history = b.history ++ e ∷ []; parts = b.parts }

-- ---- claims

-- the job of the next procedure, under the ticket of this claim; none, where nothing is claimable
abbrev pub IsGiven : BookParts → Who → Option Job → Type 0
IsGiven b who None = (f : ℕ) → ¬ IsClaimable (its_desk b) (statuses_in b) who f
IsGiven b who (Some j) = MayCome (its_desk b) (statuses_in b) (Claim who j.proc) × IsJob (work_in b) (tables_at b.parts) j.proc.0 (job_tree j) × (j.ticket ≡ length b.history)

-- the book after it
abbrev pub claimed : BookParts → Who → Option Job → BookParts
claimed b who None = b
claimed b who (Some j) = with_event b (Claim who j.proc)

-- ---- publications

-- a publication under this ticket is due: the job is that of a procedure which is held under it
pub record IsDue (b : BookParts) (under : ℕ) (j : JobTree) : Type 0 where
  pub held : IsHeldUnder (statuses_in b) under j.proc.0
  pub job : IsJob (work_in b) (tables_at b.parts) j.proc.0 j
  pub ticket : j.ticket ≡ under

-- the book after it: the procedure has the piece's table
abbrev pub published : BookParts → ℕ → PieceParts → BookParts
published b under p = record {
  sources = b.sources;
  graph = b.graph;
  history = b.history ++ Publish under ∷ [];
  parts = slice_set b.parts p.job.proc.0 (Tabled p.entries p.drops);
}
