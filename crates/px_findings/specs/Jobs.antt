-- What is found out of one job.
use Rattle.std.specs.Prelude.{◌≡◌, ℕ, List, map, Option}
use Rattle.px_entry.specs.declared.entries.Entry.{Entry}
use Rattle.px_entry.specs.declared.tables.Table.{Table}
use Rattle.px_callgraph.specs.JobTree.{JobTree}
use Rattle.px_symexec.specs.Tables.{IsTable}
use Rattle.px_symexec.specs.One.{Work, IsJob}
use Rattle.px_explore.specs.Counts.{IsCounted}
use Rattle.px_check.specs.declared.checked.Checked.{Checked}
use Rattle.px_check.specs.Answers.{entry_of}
use Rattle.px_pieces.specs.declared.findings.Part.{Part}
use Rattle.px_pieces.specs.declared.findings.Part.TheVariants.{Tabled, LeftOut}
use Rattle.px_pieces.specs.Pieces.{AreOf, table_from}
use Rattle.px_findings.specs.declared.exploration.Exploration.{Exploration}
use Rattle.px_findings.specs.declared.jobs.Shared.{Shared}

-- these entries, each checked against this job
abbrev pub AreChecked : JobTree → List Entry → List Checked → Type 0
AreChecked j entries checked = (map entry_of checked ≡ entries) × AreOf j checked

-- the table of a job, its entries checked
abbrev pub IsTableOf : JobTree → Part → Type 0
IsTableOf j (Tabled checked drops) = IsTable j (record { entries = map entry_of checked; drops = drops }) × AreOf j checked
IsTableOf j LeftOut = ⊥

-- the same, with the derivations of the entries by their own paths and the number of live prefixes
abbrev pub IsAnalysed : JobTree → Part → Exploration → Type 0
IsAnalysed j (Tabled checked drops) e = IsCounted j (record { table = table_from checked drops; derivations = e.derivations; live = e.live }) × AreOf j checked
IsAnalysed j LeftOut e = ⊥

-- what the jobs of the work share
pub record IsShared (w : Work) (s : Shared) : Type 0 where
  pub types : s.types ≡ w.types
  pub limits : s.limits ≡ w.limits
  pub kinds : s.kinds ≡ w.kinds

-- the table of f's job, where the procedures have these tables
abbrev pub IsPartOf : Work → (ℕ → Option Table) → ℕ → Part → Type 0
IsPartOf w tables f x = (j : JobTree) × IsJob w tables f j × IsTableOf j x

-- the same, with how it was found
abbrev pub IsAnalysedOf : Work → (ℕ → Option Table) → ℕ → Part → Exploration → Type 0
IsAnalysedOf w tables f x e = (j : JobTree) × IsJob w tables f j × IsAnalysed j x e
