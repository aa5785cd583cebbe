-- What is found out of a program with the help of kept items, and the report on it.
use Rattle.std.specs.Prelude.{◌≡◌, ℕ, Bool, List, [], Option}
use Rattle.px_base.specs.LimitNumbers.{LimitNumbers}
use Rattle.px_entry.specs.declared.tables.Table.{Table}
use Rattle.px_callgraph.specs.JobTree.{JobTree}
use Rattle.px_syntax.specs.ProgramTree.{ProgramTree}
use Rattle.px_findings.specs.Found.{work_of}
use Rattle.px_text_report.specs.Known.{known}
use Rattle.px_text_report.specs.Reports.{Form}
use Rattle.px_checking.specs.declared.asked.More.{More}
use Rattle.px_checking.specs.After.{IsAfter}
use Rattle.px_checking.specs.Kinds.{IsRisingOf}
use Rattle.px_checking.specs.Findings.{IsCheckOf}
use Rattle.px_checking.specs.Ways.{Way}
use Rattle.px_keep.specs.Items.{KeptItem}
use Rattle.px_keep.specs.Good.{IsFirstGood}
use Rattle.px_keep.specs.Keeping.{KeepsWork}
use Rattle.px_keep.specs.Reused.{IsReused}
use Rattle.px_rechecking.specs.Lines.{line_asked}

-- the word of kept items: it says of a job the table of the first that is good for it
abbrev pub word_of : List KeptItem → JobTree → Table → Type 0
word_of items j t = IsFirstGood j items t

-- How a program is analysed with the help of kept items: by their word, in one process. So many procedures have an item that is good
-- for them, which is told in the line, if it is asked for.
abbrev pub kept_way : LimitNumbers → Form → Bool → More → List KeptItem → ℕ → Way
kept_way limits form stats more items used =
    record {
      limits = limits;
      form = form;
      word = word_of items;
      backs = λ f. f.events ≡ [];
      more = λ P f. IsAfter more P (known f);
      line = line_asked stats used;
    }

-- The report on what is found out of a program with the help of these items and of domains of these kinds; and so many procedures have
-- an item that is good for them.
pub record IsKeptCheckOf (limits : LimitNumbers) (form : Form) (stats : Bool) (more : More) (items : List KeptItem) (given : List ℕ) (P : ProgramTree) (text : List ℕ) (has_bug : Bool) (line : Option (List ℕ)) : Type 0 where
  pub used : ℕ
  pub check : IsCheckOf (kept_way limits form stats more items used) given P text has_bug line
  pub reused : IsReused (work_of P limits check.kinds) items check.findings used

-- the bytes keep what one process finds out of the program, with the help of domains of these kinds
pub record KeepsProgramOf (P : ProgramTree) (limits : LimitNumbers) (given : List ℕ) (bytes : List ℕ) : Type 0 where
  pub kinds : List ℕ
  pub rising : IsRisingOf given kinds
  pub keeps : KeepsWork (work_of P limits kinds) bytes
