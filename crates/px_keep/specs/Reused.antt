-- What is found out of a program's procedures with the help of kept items.
use Rattle.std.specs.Prelude.{◌≡◌, ℕ, Bool, true, false, List, length, sum_by, cond, Option, Some, slice_get}
use Rattle.px_entry.specs.declared.tables.Gap.{Gap}
use Rattle.px_entry.specs.declared.tables.Table.{Table}
use Rattle.px_callgraph.specs.JobTree.{JobTree}
use Rattle.px_check.specs.declared.checked.Checked.{Checked}
use Rattle.px_symexec.specs.Tables.{IsTable}
use Rattle.px_symexec.specs.One.{Work, IsTabled, IsJob}
use Rattle.px_pieces.specs.declared.findings.Part.{Part}
use Rattle.px_pieces.specs.declared.findings.Part.TheVariants.{Tabled, LeftOut}
use Rattle.px_pieces.specs.Found.{Found, tables_in}
use Rattle.px_pieces.specs.Pieces.{AreOf, table_from}
use Rattle.px_keep.specs.Items.{KeptItem}
use Rattle.px_keep.specs.Good.{AreNoGood, IsFirstGood}

-- the table of the first item that is good for the job, if one is; else the job's own
abbrev pub IsTableBy : List KeptItem → JobTree → Bool → Table → Type 0
IsTableBy xs j true t = IsFirstGood j xs t
IsTableBy xs j false t = AreNoGood j xs × IsTable j t

-- checked entries and drops that answer the job so
abbrev pub IsAnswer : List KeptItem → JobTree → Bool → List Checked → List Gap → Type 0
IsAnswer xs j used checked drops = AreOf j checked × IsTableBy xs j used (table_from checked drops)

-- the part answers the job of f so, where the procedures have these tables
abbrev pub IsPartOf : (JobTree → Bool → List Checked → List Gap → Type 0) → Work → (ℕ → Option Table) → ℕ → Bool → Part → Type 0
IsPartOf Answers w tables f used (Tabled checked drops) = (j : JobTree) × IsJob w tables f j × Answers j used checked drops
IsPartOf Answers w tables f used LeftOut = ⊥

-- the same, where f is to have a table; else there is none
abbrev pub IsReusedPart : List KeptItem → Work → (ℕ → Option Table) → ℕ → Bool → Part → Type 0
IsReusedPart xs w tables f used (Tabled checked drops) = IsTabled w f × IsPartOf (IsAnswer xs) w tables f used (Tabled checked drops)
IsReusedPart xs w tables f used LeftOut = (¬ IsTabled w f) × (used ≡ false)

-- how many of these are true
abbrev pub trues : List Bool → ℕ
trues bs = sum_by (λ b. cond b 1 0) bs

-- Each kept procedure has the table of the first item that is good for its job, else its job's own; jobs have the tables that are
-- found so. And so many procedures have a good item.
pub record IsReused (w : Work) (xs : List KeptItem) (found : Found) (used : ℕ) : Type 0 where
  pub all : length found.parts ≡ w.kept
  pub uses : List Bool
  pub all_uses : length uses ≡ w.kept
  pub each : (f : ℕ) (x : Part) (b : Bool) → slice_get found.parts f ≡ Some x → slice_get uses f ≡ Some b → IsReusedPart xs w (tables_in found) f b x
  pub used_are : used ≡ trues uses
