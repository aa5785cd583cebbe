-- What a report tells of the items of files.
use Rattle.std.specs.Prelude.{◌≡◌, ◌⊎◌, ℕ, List, map, All, Any, Option, Some, None, codes, slice_get, ⊤}
use Rattle.px_base.specs.declared.trace.Site.{Site}
use Rattle.px_entry.specs.declared.tables.Gap.{Gap}
use Rattle.px_syntax.specs.declared.program.Left.{Left}
use Rattle.px_syntax.specs.ItemTree.{struct, declared, prototype, function}
use Rattle.px_syntax.specs.ParsedTree.{ParsedTree, parsed, out, FileTree}
use Rattle.px_syntax.specs.ProgramTree.{ProgramTree, ProcedureTree}
use Rattle.px_typing.specs.Keeping.{Judged}
use Rattle.px_typing.specs.Programs.{function_name, site_of}
use Rattle.px_programs.specs.Laws.{items_in, judged_items}
use Rattle.px_check.specs.declared.checked.Checked.{Checked}
use Rattle.px_pieces.specs.declared.findings.Part.TheVariants.{Tabled}
use Rattle.px_pieces.specs.Found.{Found}
use Rattle.px_text_report.specs.Known.{known}
use Rattle.px_text_report.specs.LeftOut as line
use Rattle.px_text_report.specs.Reports.{report_on}

-- ---- the line of an item

-- by the name of its function, where it is read as one
abbrev pub shown_name : Option (List ℕ) → List ℕ
shown_name None = codes "(item)"
shown_name (Some name) = name

-- this left-out item of the report is the item of the files, left out for this word
pub record IsLineOf (P : ProgramTree) (item : ParsedTree) (word : List ℕ) (l : Left) : Type 0 where
  pub place : l.site ≡ site_of item
  pub name : line.left_name P.names l.proc ≡ shown_name (function_name item)
  pub says : l.word ≡ word

abbrev pub HasLine : ProgramTree → Found → ParsedTree → List ℕ → Type 0
HasLine P f item word = Any (IsLineOf P item word) (report_on P (known f)).left_out

-- ---- the table of an item

-- a kept procedure that is the function with this name at this place has a table
pub record HasTable (P : ProgramTree) (f : Found) (site : Site) (name : List ℕ) : Type 0 where
  pub number : ℕ
  pub procedure : ProcedureTree
  pub kept : slice_get P.procedures number ≡ Some procedure
  pub place : procedure.site ≡ site
  pub named : slice_get P.names number ≡ Some name
  pub checked : List Checked
  pub drops : List Gap
  pub part : slice_get f.parts number ≡ Some (Tabled checked drops)

-- ---- what is told

-- An item that is left out for a word has its line. A function that isn't has its table, or is too large, which its line
-- says; and each item that isn't read is left out. Of other items that are kept a report has nothing to tell.
abbrev pub IsToldAs : ProgramTree → Found → Option (List ℕ) → ParsedTree → Type 0
IsToldAs P f (Some word) item = HasLine P f item word
IsToldAs P f None (parsed (function site result name ps body)) = HasTable P f site name ⊎ HasLine P f (parsed (function site result name ps body)) (codes "size")
IsToldAs P f None (parsed (struct site tag ds)) = ⊤
IsToldAs P f None (parsed (declared site tag)) = ⊤
IsToldAs P f None (parsed (prototype site result name ps)) = ⊤
IsToldAs P f None (out name site word) = ⊥

-- each item of the files is kept or left out for a word, and so told
pub record AreTold (files : List FileTree) (P : ProgramTree) (f : Found) : Type 0 where
  pub all : map (λ j. j.item) (judged_items files) ≡ items_in files
  pub each : All (λ (j : Judged). IsToldAs P f j.word j.item) (judged_items files)
