-- What a piece says of its job.
use Rattle.std.specs.Prelude.{◌≡◌, ◌⊎◌, List, map}
use Rattle.std.specs.List.{AllByRecursion}
use Rattle.px_entry.specs.declared.tables.Gap.{Gap}
use Rattle.px_entry.specs.declared.tables.Table.{Table}
use Rattle.px_callgraph.specs.declared.jobs.Job.{Job}
use Rattle.px_callgraph.specs.JobTree.{JobTree}
use Rattle.px_check.specs.declared.checked.Checked.{Checked}
use Rattle.px_check.specs.Answers.{entry_of, job_of}
use Rattle.px_symexec.specs.Tables.{IsTable}

-- a job with its answer, as plain data
pub record PieceParts : Type 0 where
  pub job : Job
  pub entries : List Checked
  pub drops : List Gap

-- each was checked against this job
abbrev pub AreOf : JobTree → List Checked → Type 0
AreOf j checked = AllByRecursion (λ c. job_of c ≡ j) checked

-- the table of these entries and drops
abbrev pub table_from : List Checked → List Gap → Table
table_from checked drops = record { entries = map entry_of checked; drops = drops }

-- a table is the job's own, or one that a word says of it
abbrev pub IsToldBy : (JobTree → Table → Type 0) → JobTree → Table → Type 0
IsToldBy says j t = IsTable j t ⊎ says j t
