-- The items that are kept of a program.
use Rattle.std.specs.Prelude.{◌≡◌, ◌⊎◌, ⊤, ℕ, ◌<◌, Bool, List, [], ◌∷◌, ◌++◌, take, Option, Some, All, AllPairs, Any}
use Rattle.px_entry.specs.declared.tables.Gap.{Gap}
use Rattle.px_entry.specs.declared.tables.Table.{Table}
use Rattle.px_callgraph.specs.JobTree.{JobTree}
use Rattle.px_callgraph.specs.Ranks.{IsRank}
use Rattle.px_check.specs.declared.checked.Checked.{Checked}
use Rattle.px_symexec.specs.Tables.{IsTable}
use Rattle.px_symexec.specs.One.{Work, IsTabled, IsJob, IsOne}
use Rattle.px_wire.specs.Messages.{MessageTree, request, reply, large, IsMessage}
use Rattle.px_explore.specs.declared.results.Analysis.{Analysis}
use Rattle.px_explore.specs.Own.{IsAnalysis}
use Rattle.px_pieces.specs.declared.findings.Part.{Part}
use Rattle.px_pieces.specs.Pieces.{AreOf, table_from}
use Rattle.px_jobs.specs.Plans.{tables_at}
use Rattle.px_findings.specs.declared.order.Turn.{Turn}
use Rattle.px_keep.specs.Items.{KeptItem, AreItems, items_bytes, AreKept}
use Rattle.px_keep.specs.Writing.{items_for}

-- the item of f's job and its analysis, which are in range, where the procedures have these tables; none, where a message is too long for a
-- frame
pub record AreItemsOf (w : Work) (tables : ℕ → Option Table) (f : ℕ) (xs : List KeptItem) : Type 0 where
  pub job : JobTree
  pub is_job : IsJob w tables f job
  pub ticket : job.ticket ≡ 0
  pub analysis : Analysis
  pub is_analysis : IsAnalysis job analysis
  pub asks : IsMessage (request job)
  pub gives : IsMessage (reply 0 job.kinds analysis.table analysis.derivations)
  pub table : tables f ≡ Some analysis.table
  pub items : xs ≡ items_for job analysis.table analysis.derivations

-- those of the procedures of these turns, one after another
abbrev pub AreItemsOfAll : Work → (ℕ → Option Table) → List Turn → List KeptItem → Type 0
AreItemsOfAll w tables [] xs = xs ≡ []
AreItemsOfAll w tables (t ∷ ts) xs = (own : List KeptItem) × (rest : List KeptItem) × (xs ≡ own ++ rest) × AreItemsOf w tables t.number own × AreItemsOfAll w tables ts rest

-- the procedures that are to have tables, each once, by rank and then by number
pub record AreRanked (w : Work) (order : List Turn) : Type 0 where
  pub each : All (λ (t : Turn). IsTabled w t.number × IsRank w.bodies w.kept t.number t.rank) order
  pub all : (n : ℕ) → IsTabled w n → Any (λ (t : Turn). t.number ≡ n) order
  pub in_order : AllPairs (λ (s t : Turn). (s.rank < t.rank) ⊎ ((s.rank ≡ t.rank) × (s.number < t.number))) order

-- the items of all, with the tables that one process makes
pub record AreItemsOfWork (w : Work) (xs : List KeptItem) : Type 0 where
  pub tables : ℕ → Option Table
  pub one : IsOne w tables
  pub order : List Turn
  pub ranked : AreRanked w order
  pub items : AreItemsOfAll w tables order xs

-- the bytes have these
abbrev pub KeepsWork : Work → List ℕ → Type 0
KeepsWork w bytes = (xs : List KeptItem) × AreItemsOfWork w xs × AreKept bytes xs

-- ---- one after another

-- the job's own table, its entries checked; no item gave it
abbrev pub IsOwn : JobTree → Bool → List Checked → List Gap → Type 0
IsOwn j used checked drops = AreOf j checked × IsTable j (table_from checked drops)

-- the table of a reply and the derivations of its entries, if the message is one
abbrev pub IsOfReply : MessageTree → Option Analysis → Type 0
IsOfReply (reply ticket kinds table derivations) found = found ≡ Some (record { table = table; derivations = derivations })
IsOfReply (request j) found = ⊤
IsOfReply (large ticket) found = ⊤

-- what is written of a job and its analysis, which has this table
pub record IsWritten (j : JobTree) (table : Table) (old new : List ℕ) : Type 0 where
  pub analysis : Analysis
  pub is_analysis : IsAnalysis j analysis
  pub asks : IsMessage (request j)
  pub gives : IsMessage (reply 0 j.kinds analysis.table analysis.derivations)
  pub table_is : analysis.table ≡ table
  pub items : AreItems (items_for j analysis.table analysis.derivations)
  pub bytes : new ≡ old ++ items_bytes (items_for j analysis.table analysis.derivations)

-- the bytes keep the items of the first i of the order
pub record KeepSoFar (w : Work) (order : List Turn) (parts : List Part) (bytes : List ℕ) (i : ℕ) : Type 0 where
  pub items : List KeptItem
  pub of_turns : AreItemsOfAll w (tables_at parts) (take i order) items
  pub kept : AreKept bytes items
