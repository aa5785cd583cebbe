-- What a check of a program gives.
use Rattle.std.specs.Prelude.{◌≡◌, ◌≢◌, ◌↔◌, ℕ, ◌++◌, Bool, IsTrue, List, [], Option}
use Rattle.px_base.specs.LimitNumbers.{LimitNumbers}
use Rattle.px_syntax.specs.ProgramTree.{ProgramTree}
use Rattle.px_pieces.specs.Found.{Found}
use Rattle.px_text_report.specs.declared.reports.Report.{Report}
use Rattle.px_text_report.specs.Known.{known}
use Rattle.px_text_report.specs.Reports.{Form, report_on}
use Rattle.px_leak.specs.Leaks.{all_leaks}
use Rattle.px_findings.specs.Found.{AreFoundBy, AreFound, IsHonest}
use Rattle.px_truth.specs.Laws.{AreSound, AreCovered}
use Rattle.px_checking.specs.declared.asked.More.{More}
use Rattle.px_checking.specs.After.{IsAfter}
use Rattle.px_checking.specs.Kinds.{IsRisingOf}
use Rattle.px_checking.specs.Ways.{Way}

-- the report has a bug
abbrev pub HasBug : Report → Type 0
HasBug r = r.bugs ≢ []

-- the bytes of the report on findings of a program, in this form, and after them what more is told; and whether it has a bug
pub record IsRendered (form : Form) (more : More) (P : ProgramTree) (findings : Found) (text : List ℕ) (has_bug : Bool) : Type 0 where
  pub rest : List ℕ
  pub after : IsAfter more P (known findings) rest
  pub text_is : text ≡ form P (report_on P (known findings)) ++ rest
  pub bug : IsTrue has_bug ↔ HasBug (report_on P (known findings))

-- The report on what is found out of a program in this way, with the help of domains of these kinds: its bytes and those after it,
-- whether it has a bug, and the line that is told after it, if there is one.
pub record IsCheckOf (way : Way) (given : List ℕ) (P : ProgramTree) (text : List ℕ) (has_bug : Bool) (line : Option (List ℕ)) : Type 0 where
  pub kinds : List ℕ
  pub rising : IsRisingOf given kinds
  pub findings : Found
  pub found : AreFoundBy way.word P way.limits kinds findings
  pub backed : way.backs findings
  pub rest : List ℕ
  pub after : way.more P findings rest
  pub text_is : text ≡ way.form P (report_on P (known findings)) ++ rest
  pub bug : IsTrue has_bug ↔ HasBug (report_on P (known findings))
  pub line_is : line ≡ way.line findings

-- What is true of the report where the tables are those of one process.
pub record IsOneReport (limits : LimitNumbers) (kinds : List ℕ) (P : ProgramTree) (findings : Found) (report : Report) : Type 0 where
  pub found : AreFound P limits kinds findings
  -- each table covers the executions within the bound
  pub covered : AreCovered P limits.unroll findings
  -- and there is no other report, and there are no other leaks
  pub only : (others : Found) → AreFound P limits kinds others → report_on P (known others) ≡ report
  pub only_leaks : (others : Found) → AreFound P limits kinds others → all_leaks (known others) ≡ all_leaks (known findings)

-- A report on a program, of which these are the bytes, with those after it.
pub record IsReportOn (way : Way) (given : List ℕ) (P : ProgramTree) (text : List ℕ) : Type 0 where
  -- what is found out of the program within the limits, with the help of the domains by rising kinds: tables that answer their
  -- jobs by the word, each entry derived from its job
  pub kinds : List ℕ
  pub rising : IsRisingOf given kinds
  pub findings : Found
  pub found : AreFoundBy way.word P way.limits kinds findings
  pub backed : way.backs findings
  -- each entry of each table is true of its procedure, each bug manifest, and each error that looks manifest is shown; and each
  -- function of the files has a table or its line
  pub sound : AreSound P findings
  -- the report says just that
  pub report : Report
  pub says : report ≡ report_on P (known findings)
  -- and what may come after it does
  pub rest : List ℕ
  pub after : way.more P findings rest
  pub text_is : text ≡ way.form P report ++ rest
  -- by an honest word the tables are those of one process
  pub one : IsHonest way.word → IsOneReport way.limits kinds P findings report
