-- Bytes are read in one way, what is written is read, and what is found is certified.
use Rattle.std.specs.Prelude.{◌≡◌, ◌⊎◌, ◌↔◌, ℕ, List, Some, IsSome, slice_get, Result, Ok, Err}
use Rattle.px_entry.specs.declared.tables.Gap.{Gap}
use Rattle.px_entry.specs.declared.tables.Table.{Table}
use Rattle.px_callgraph.specs.JobTree.{JobTree}
use Rattle.px_check.specs.declared.checked.Checked.{Checked}
use Rattle.px_symexec.specs.Tables.{IsTable}
use Rattle.px_symexec.specs.One.{Work, IsTabled, IsJob, IsOne}
use Rattle.px_pieces.specs.declared.findings.Part.TheVariants.{Tabled}
use Rattle.px_pieces.specs.Found.{Found, tables_in}
use Rattle.px_pieces.specs.Pieces.{AreOf, IsToldBy}
use Rattle.px_keep.specs.declared.faults.KeepFault.{KeepFault}
use Rattle.px_keep.specs.declared.faults.KeepFault.TheVariants.{NoMemory}
use Rattle.px_keep.specs.Items.{KeptItem, AreKept}
use Rattle.px_keep.specs.Reading.{IsBadAt, IsRead}
use Rattle.px_keep.specs.Good.{IsFirstGood}
use Rattle.px_keep.specs.Keeping.{KeepsWork}
use Rattle.px_keep.specs.Reused.{IsReused}

-- Bytes have one list of items at most, and are bad at one place at most, and not both.
pub record OneReading : Type 0 where
  pub one_list : (bytes : List ℕ) (xs ys : List KeptItem) → AreKept bytes xs → AreKept bytes ys → xs ≡ ys
  pub one_place : (bytes : List ℕ) (m n : ℕ) → IsBadAt bytes m → IsBadAt bytes n → m ≡ n
  pub apart : (bytes : List ℕ) (xs : List KeptItem) (n : ℕ) → AreKept bytes xs → IsBadAt bytes n → ⊥

-- The bytes of items are read as these items, unless memory runs out.
abbrev pub KeptIsRead : Type 0
KeptIsRead = (bytes : List ℕ) (xs : List KeptItem) (r : Result (List KeptItem) KeepFault) → AreKept bytes xs → IsRead bytes r → (r ≡ Ok xs) ⊎ (r ≡ Err NoMemory)

-- Where bytes keep a program, each item that is the first good one for a job, of whatever program, gives the job's own table.
abbrev pub KeptIsHonest : Type 0
KeptIsHonest = (w : Work) (bytes : List ℕ) (xs : List KeptItem) (j : JobTree) (t : Table) → KeepsWork w bytes → AreKept bytes xs → IsFirstGood j xs t → IsTable j t

-- What is found with the help of items: the procedures that are to have tables have one, each entry was checked against the job, and each
-- table is the job's own, or that of the first good item. Where each of these is the job's own too, all are those that one process makes.
pub record ReusedTables : Type 0 where
  pub tabled : (w : Work) (xs : List KeptItem) (f : Found) (used : ℕ) → IsReused w xs f used → (n : ℕ) → IsSome (tables_in f n) ↔ IsTabled w n
  pub checked : (w : Work) (xs : List KeptItem) (f : Found) (used : ℕ) → IsReused w xs f used → (n : ℕ) (checked : List Checked) (drops : List Gap) →
      slice_get f.parts n ≡ Some (Tabled checked drops) → (j : JobTree) × IsJob w (tables_in f) n j × AreOf j checked
  pub told : (w : Work) (xs : List KeptItem) (f : Found) (used : ℕ) → IsReused w xs f used → (n : ℕ) (t : Table) → tables_in f n ≡ Some t →
      (j : JobTree) × IsJob w (tables_in f) n j × IsToldBy (λ i u. IsFirstGood i xs u) j t
  pub one : (w : Work) (xs : List KeptItem) (f : Found) (used : ℕ) → IsReused w xs f used → ((j : JobTree) (t : Table) → IsFirstGood j xs t → IsTable j t) → IsOne w (tables_in f)
